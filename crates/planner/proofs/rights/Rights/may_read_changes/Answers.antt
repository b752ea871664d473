use Rattle.sql_ast.specs.declared.privilege.Action.TheVariants as action
use Rattle.abstract_database.specs.Needs.{columns_read}
use Rattle.planner.specs.Changed.{expressions_in}
use Rattle.planner.proofs.Meeting.{columns_met}
use Rattle.planner.proofs.rights.Rights.may_read_changes.Goals as goal

pub returns : goal.returns
returns c =
    columns_met c.args.self.now action.Select c.args.table.now c.held.result c.held.ensures c.args.table.now.definition.name
    (columns_read 0 (expressions_in c.args.values.now c.args.condition.now)) c.covers_changes.result c.covers_changes.ensures
