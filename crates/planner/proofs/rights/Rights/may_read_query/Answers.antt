use Rattle.std.proofs.Common.{◌∙◌, ap}
use Rattle.std.specs.List.{list_all}
use Rattle.sql_ast.specs.declared.privilege.Action.TheVariants as action
use Rattle.abstract_database.specs.Needs.{columns_of_query}
use Rattle.catalogue.specs.Grants.{has_bit}
use Rattle.gathering.specs.Queries.{bound_of}
use Rattle.planner.specs.Rights.{covers}
use Rattle.planner.proofs.Meeting.{not_met, all_met}
use Rattle.planner.proofs.rights.Rights.may_read_query.Goals as goal

pub returns-then-covers_some : goal.returns-then-covers_some
returns-then-covers_some c =
    let t = c.args.table.now in
    let mask = c.held-mask.result in
    let q = bound_of c.args.query.now in
    all_met c.args.self.now action.Select t mask c.held-mask.ensures t.definition.name (columns_of_query q c.args.number t.definition.layout)
    c.covers_some.result c.covers_query.result c.covers_some.ensures
    (c.covers_query.ensures ∙ ap (λ l. list_all (covers (has_bit mask)) (columns_of_query q c.args.number l)) c.columns.ensures) c.if-covers_some.true

pub returns-else-covers_some : goal.returns-else-covers_some
returns-else-covers_some c =
    let t = c.args.table.now in
    c.if-covers_some.false ∙ not_met c.args.self.now action.Select t c.held-mask.result c.held-mask.ensures t.definition.name (columns_of_query (bound_of c.args.query.now) c.args.number t.definition.layout)
    c.covers_some.result c.covers_some.ensures c.if-covers_some.false
