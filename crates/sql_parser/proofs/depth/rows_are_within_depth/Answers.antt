use Rattle.std.proofs.Common.{arith, rules}
use Rattle.std.specs.Prelude.{All}
use Rattle.expr_parser.specs.Whole.{IsWithinDepth}
use Rattle.sql_parser.proofs.Loops.{all_more, all_done}
use Rattle.sql_parser.proofs.depth.rows_are_within_depth.Goals as goal

pub loop-row-preserved : goal.loop-row-preserved
loop-row-preserved c = let e = c.as_slice.ensures in all_more (All IsWithinDepth) _ _ _ c.row-item.is (omega arith) c.loop-row.invariant (rw e at (c.are_within_depth.ensures.0 c.if-not-are_within_depth.false))

pub returns : goal.returns
returns c = let h = all_done (All IsWithinDepth) c.args.rows.now c.loop-row.row-index c.loop-row-test.false c.loop-row.invariant in (λ _. h, λ _. search rules)
