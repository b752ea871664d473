use Rattle.std.proofs.Common.{◌∙◌}
use Rattle.planner.proofs.Meeting.{not_met, all_met, as_columns}
use Rattle.planner.proofs.rights.Rights.may_write.Goals as goal

pub returns-then-covers_some : goal.returns-then-covers_some
returns-then-covers_some c =
    all_met c.args.self.now c.args.action c.args.table.now c.held-mask.result c.held-mask.ensures c.args.table.now.definition.name c.args.columns.now
    c.covers_some.result c.covers_each.result c.covers_some.ensures c.covers_each.ensures c.if-covers_some.true
    ∙ as_columns c.args.self.now c.args.table.now c.args.table.now.definition.name c.args.action c.in_default.not-Delete c.args.columns.now

pub returns-else-covers_some : goal.returns-else-covers_some
returns-else-covers_some c =
    c.if-covers_some.false ∙ not_met c.args.self.now c.args.action c.args.table.now c.held-mask.result c.held-mask.ensures c.args.table.now.definition.name c.args.columns.now
    c.covers_some.result c.covers_some.ensures c.if-covers_some.false
    ∙ as_columns c.args.self.now c.args.table.now c.args.table.now.definition.name c.args.action c.in_default.not-Delete c.args.columns.now
