use Rattle.std.proofs.Common.{arith}
use Rattle.expressions.specs.Rows.{names_of}
use Rattle.row_statements.proofs.Targeting.{one_more}
use Rattle.row_statements.proofs.ranges.targets.Goals as goal

pub loop-table-preserved : goal.loop-table-preserved
loop-table-preserved c =
    one_more (names_of c.args.users.now) c.args.tables.now c.loop-table.targets c.push.new.self c.loop-table.table-index c.table-item.result c.target.result c.in_ok-push.ensures.ok c.loop-table.invariant (omega arith) c.table-item.is
    c.target.ensures
