use Rattle.std.proofs.Common.{take}
use Rattle.expressions.specs.Rows.{names_of}
use Rattle.row_statements.specs.Targeted.{AreTargetsOf}
use Rattle.row_statements.proofs.ranges.targets.Given as goal

abbrev pub invariant-loop-table : goal.invariant-loop-table
invariant-loop-table l = AreTargetsOf (names_of l.users) (take l.table-index l.tables) l.targets
