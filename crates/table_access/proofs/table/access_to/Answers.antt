use Rattle.std.proofs.Common.{◌≡◌, ap, sym, ◌∙◌, subst}
use Rattle.abstract_database.specs.Database.{Database}
use Rattle.abstract_database.specs.Whole.{Each}
use Rattle.table_access.specs.Accesses.{HasOfTable}
use Rattle.table_access.proofs.table.access_to.Goals as goal

pub each_acting-requires-clause-own : goal.each_acting-requires-clause-own
each_acting-requires-clause-own c = λ db described among.
    subst (Each (HasOfTable db c.args.table.now.definition)) (sym c.as_slice-3.ensures.value) (c.in_ok-roles.ensures.own db described among)

pub returns : goal.returns
returns c = λ db described among.
    let all = ap (λ (x : Database). x.roles) (sym described.is) in
    record {
      roles = c.in_ok-roles.ensures.roles ∙ all;
      own = c.in_ok-roles.ensures.own db described among;
      acting = c.in_ok-acting.ensures.roles ∙ all;
      others = c.in_ok-acting.ensures.others db described among;
    }
