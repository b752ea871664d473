use Rattle.std.proofs.Common.{arith, rules}
use Rattle.expr_parser.specs.Whole.{IsWithinDepth}
use Rattle.sql_ast.specs.Expressions.{HoldsInKey}
use Rattle.sql_parser.proofs.Loops.{all_more, all_done}
use Rattle.sql_parser.proofs.depth.keys_are_within_depth.Goals as goal

pub loop-key-preserved : goal.loop-key-preserved
loop-key-preserved c = all_more (HoldsInKey IsWithinDepth) _ _ _ c.key-item.is (omega arith) c.loop-key.invariant (c.is_within.ensures.0 c.if-not-is_within.false)

pub returns : goal.returns
returns c = let h = all_done (HoldsInKey IsWithinDepth) c.args.keys.now c.loop-key.key-index c.loop-key-test.false c.loop-key.invariant in (λ _. h, λ _. search rules)
