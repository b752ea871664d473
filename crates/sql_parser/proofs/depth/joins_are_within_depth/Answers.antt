use Rattle.std.proofs.Common.{arith, rules}
use Rattle.expr_parser.specs.Whole.{IsWithinDepth}
use Rattle.sql_ast.specs.Expressions.{HoldsInJoin}
use Rattle.sql_parser.proofs.Loops.{all_more, all_done}
use Rattle.sql_parser.proofs.depth.joins_are_within_depth.Goals as goal

pub loop-join-preserved : goal.loop-join-preserved
loop-join-preserved c = all_more (HoldsInJoin IsWithinDepth) _ _ _ c.join-item.is (omega arith) c.loop-join.invariant (c.condition_is_within_depth.ensures.0 c.if-not-condition_is_within_depth.false)

pub returns : goal.returns
returns c = let h = all_done (HoldsInJoin IsWithinDepth) c.args.joins.now c.loop-join.join-index c.loop-join-test.false c.loop-join.invariant in (λ _. h, λ _. search rules)
