use Rattle.std.proofs.Common.{take}
use Rattle.std.specs.Prelude.{All}
use Rattle.expr_parser.specs.Whole.{IsWithinDepth}
use Rattle.sql_parser.proofs.depth.rows_are_within_depth.Given as goal

abbrev pub invariant-loop-row : goal.invariant-loop-row
invariant-loop-row l = All (All IsWithinDepth) (take l.row-index l.rows)
