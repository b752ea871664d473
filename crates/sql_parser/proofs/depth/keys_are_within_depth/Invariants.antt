use Rattle.std.proofs.Common.{take}
use Rattle.std.specs.Prelude.{All}
use Rattle.expr_parser.specs.Whole.{IsWithinDepth}
use Rattle.sql_ast.specs.Expressions.{HoldsInKey}
use Rattle.sql_parser.proofs.depth.keys_are_within_depth.Given as goal

abbrev pub invariant-loop-key : goal.invariant-loop-key
invariant-loop-key l = All (HoldsInKey IsWithinDepth) (take l.key-index l.keys)
