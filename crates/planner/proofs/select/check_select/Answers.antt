use Rattle.std.proofs.Common.{◌≡◌, ◌∙◌, Ok, ap, map, subst}
use Rattle.abstract_database.specs.Queries.{tables_in}
use Rattle.planner.specs.Tables.{tables_for}
use Rattle.planner.proofs.Named.{are_tables}
use Rattle.planner.proofs.select.check_select.Goals as goal

pub returns-clause-tables : goal.returns-clause-tables
returns-clause-tables c =
    let d = c.args.catalogue.now in
    let tables = map (λ t. t.now) c.in_ok-tables.tables in
    let refs : map (λ r. r.now) c.as_slice.result.now ≡ tables_in c.args.statement.now.source = ap (map (λ r. r.now)) c.as_slice.ensures.value ∙ c.in_ok-references.ensures in
    are_tables d (tables_in c.args.statement.now.source) tables (subst (λ rs. tables_for d rs ≡ Ok tables) refs c.in_ok-tables.ensures)
