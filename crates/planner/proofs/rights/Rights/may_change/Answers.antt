use Rattle.abstract_database.specs.Needs.{on_columns, columns_read}
use Rattle.sql_ast.specs.declared.privilege.Action.TheVariants as action
use Rattle.planner.specs.Changed.{expressions_in}
use Rattle.planner.specs.Rights.{needs_of_write}
use Rattle.planner.proofs.Meeting.{two_met, one_not_met}
use Rattle.planner.proofs.rights.Rights.may_change.Goals as goal

pub returns-then-may_write : goal.returns-then-may_write
returns-then-may_write c =
    let name = c.args.table.now.definition.name in
    two_met c.args.self.now c.args.table.now (needs_of_write c.args.action name c.args.columns.now) (on_columns name action.Select (columns_read 0 (expressions_in c.args.values.now c.args.condition.now)))
    c.may_write.result c.may_read_changes.result c.may_write.ensures c.may_read_changes.ensures c.if-may_write.true

pub returns-else-may_write : goal.returns-else-may_write
returns-else-may_write c =
    let name = c.args.table.now.definition.name in
    one_not_met c.args.self.now c.args.table.now (needs_of_write c.args.action name c.args.columns.now) (on_columns name action.Select (columns_read 0 (expressions_in c.args.values.now c.args.condition.now)))
    c.may_write.result c.may_write.ensures c.if-may_write.false
