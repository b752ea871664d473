use Rattle.std.proofs.Common.{take}
use Rattle.std.specs.Prelude.{All}
use Rattle.expr_parser.specs.Whole.{IsWithinDepth}
use Rattle.sql_ast.specs.Expressions.{HoldsInAssignment}
use Rattle.sql_parser.proofs.depth.assignments_are_within_depth.Given as goal

abbrev pub invariant-loop-assignment : goal.invariant-loop-assignment
invariant-loop-assignment l = All (HoldsInAssignment IsWithinDepth) (take l.assignment-index l.assignments)
