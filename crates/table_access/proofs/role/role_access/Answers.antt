use Rattle.std.proofs.Common.{◌≡◌, ap, sym, ◌∙◌}
use Rattle.abstract_database.specs.Lists.{TheName}
use Rattle.abstract_database.specs.Database.{Database}
use Rattle.abstract_database.specs.Roles.{is_in}
use Rattle.table_access.proofs.role.role_access.Goals as goal

pub returns-clause-own : goal.returns-clause-own
returns-clause-own c = λ db described among.
    let name = c.args.role.now.name in
    let all = ap (λ (x : Database). x.memberships) (sym described.is) in
    let its = λ (s : TheName). c.in_ok-roles.ensures.test s ∙ ap (λ ms. is_in ms name s) (c.memberships.ensures.memberships ∙ all) in
    record {
      roles = its;
      is_in_owner = c.contains.ensures ∙ its c.owner.result.now ∙ ap (is_in db.memberships name) c.owner.ensures;
      is_guarded = c.is_guarded-guarded.ensures db described among;
      select = c.in_ok-select.ensures db described among;
      insert = c.in_ok-insert.ensures db described among;
      update = c.in_ok-update.ensures db described among;
      delete = c.in_ok-delete.ensures db described among;
    }
