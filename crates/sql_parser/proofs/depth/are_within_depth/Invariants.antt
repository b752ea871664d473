use Rattle.std.proofs.Common.{take}
use Rattle.std.specs.Prelude.{All}
use Rattle.expr_parser.specs.Whole.{IsWithinDepth}
use Rattle.sql_parser.proofs.depth.are_within_depth.Given as goal

abbrev pub invariant-loop-value : goal.invariant-loop-value
invariant-loop-value l = All IsWithinDepth (take l.value-index l.values)
