use Rattle.std.proofs.Common.{arith, rules}
use Rattle.expr_parser.specs.Whole.{IsWithinDepth}
use Rattle.sql_ast.specs.Expressions.{HoldsInAssignment}
use Rattle.sql_parser.proofs.Loops.{all_more, all_done}
use Rattle.sql_parser.proofs.depth.assignments_are_within_depth.Goals as goal

pub loop-assignment-preserved : goal.loop-assignment-preserved
loop-assignment-preserved c = all_more (HoldsInAssignment IsWithinDepth) _ _ _ c.assignment-item.is (omega arith) c.loop-assignment.invariant (c.is_within.ensures.0 c.if-not-is_within.false)

pub returns : goal.returns
returns c = let h = all_done (HoldsInAssignment IsWithinDepth) c.args.assignments.now c.loop-assignment.assignment-index c.loop-assignment-test.false c.loop-assignment.invariant in (λ _. h, λ _. search rules)
