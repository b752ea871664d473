use Rattle.std.proofs.Common.{refl, arith}
use Rattle.syntax_places.proofs.Searching.{found_low, lowered, raised}
use Rattle.syntax_places.proofs.search.wrong_index.Goals as goal

pub loop-high-preserved-then-branch : goal.loop-high-preserved-then-branch
loop-high-preserved-then-branch c = raised c.loop-high.invariant refl c.loop-high-test.true (omega (arith, c.loop-high-test.true)) (c.in_ok-goes_on_at.ensures.yes c.if-branch.true)

pub loop-high-preserved : goal.loop-high-preserved
loop-high-preserved c = lowered c.loop-high.invariant refl c.loop-high-test.true (omega (arith, c.loop-high-test.true)) (omega (arith, c.loop-high-test.true, c.loop-high.invariant.most)) (c.in_ok-goes_on_at.ensures.no c.if-branch.false)

pub returns : goal.returns
returns c = found_low c.loop-high.invariant (omega (arith, c.loop-high-test.false))
