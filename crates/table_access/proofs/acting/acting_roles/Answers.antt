use Rattle.std.proofs.Common.{◌≡◌, map, filter, ap, sym, ◌∙◌, subst}
use Rattle.sql_ast.specs.declared.role.Role.{Role}
use Rattle.abstract_database.specs.Database.{Database}
use Rattle.abstract_database.specs.Roles.{is_superuser}
use Rattle.abstract_database.specs.Whole.{Each}
use Rattle.table_access.specs.declared.role.RoleAccess.{RoleAccess}
use Rattle.table_access.specs.Having.{is_shown_as}
use Rattle.table_access.specs.Accesses.{IsActedAs}
use Rattle.table_access.specs.Likeness.{is_shown}
use Rattle.table_access.proofs.Gathering.{seen_filter}
use Rattle.table_access.proofs.Shown.{shown_alike}
use Rattle.table_access.proofs.acting.acting_roles.Goals as goal

abbrev its_role : RoleAccess → Role
its_role r = r.role.now

pub returns-clause-others : goal.returns-clause-others
returns-clause-others c = λ db described among.
    let one = c.args.one.now in
    let name = one.role.now.name in
    let t = c.args.table.now.definition in
    let su = c.is_superuser-is_superuser.result in
    let is : su ≡ is_superuser db name = c.is_superuser-is_superuser.ensures ∙ ap (λ (x : Database). is_superuser x name) (sym described.is) in
    record {
      shown =
          c.in_ok-others.ensures.shown
          ∙ seen_filter its_role (is_shown su one) (λ (s : Role). is_shown_as db t name s.name) c.args.roles.now
          (λ y at. shown_alike db t su one y is (c.requires.one db described among) (c.requires.own db described among y at))
          ∙ ap (filter (λ (s : Role). is_shown_as db t name s.name)) (c.requires.roles ∙ ap (λ (x : Database). x.roles) (sym described.is));
      memberships = subst (λ ms. Each (IsActedAs ms name) c.in_ok-others.others.items) (c.memberships.ensures.memberships ∙ ap (λ (x : Database). x.memberships) (sym described.is)) c.in_ok-others.ensures.memberships;
    }
