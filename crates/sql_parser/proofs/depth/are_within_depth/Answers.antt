use Rattle.std.proofs.Common.{arith, rules}
use Rattle.expr_parser.specs.Whole.{IsWithinDepth}
use Rattle.sql_parser.proofs.Loops.{all_more, all_done}
use Rattle.sql_parser.proofs.depth.are_within_depth.Goals as goal

pub loop-value-preserved : goal.loop-value-preserved
loop-value-preserved c = all_more IsWithinDepth _ _ _ c.value-item.is (omega arith) c.loop-value.invariant (c.is_within.ensures.0 c.if-not-is_within.false)

pub returns : goal.returns
returns c = let h = all_done IsWithinDepth c.args.values.now c.loop-value.value-index c.loop-value-test.false c.loop-value.invariant in (λ _. h, λ _. search rules)
