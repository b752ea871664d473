use Rattle.std.proofs.Common.{take}
use Rattle.std.specs.Prelude.{All}
use Rattle.expr_parser.specs.Whole.{IsWithinDepth}
use Rattle.sql_ast.specs.Expressions.{HoldsInJoin}
use Rattle.sql_parser.proofs.depth.joins_are_within_depth.Given as goal

abbrev pub invariant-loop-join : goal.invariant-loop-join
invariant-loop-join l = All (HoldsInJoin IsWithinDepth) (take l.join-index l.joins)
