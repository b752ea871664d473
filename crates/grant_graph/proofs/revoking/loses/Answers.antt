use Rattle.std.proofs.Common.{◌&&◌, ◌||◌, ◌∙◌, not, false, get_or, refl, sym, arith, below_more}
use Rattle.std.proofs.lemmas.Bool.{both_ways}
use Rattle.grant_graph.proofs.revoking.loses.Goals as goal

pub loop-index-preserved : goal.loop-index-preserved
loop-index-preserved c = below_more _ _ c.loop-index.invariant (sym c.is_lost-is_lost.ensures ∙ c.if-is_lost.false)

pub returns-then-is_lost : goal.returns-then-is_lost
returns-then-is_lost c = (λ e. (c.loop-index.index, c.loop-index-test.true, sym c.is_lost-is_lost.ensures ∙ c.if-is_lost.true), λ h. refl)

pub returns : goal.returns
returns c = (
  λ e. cc,
  λ lost. absurd (both_ways (not (get_or c.args.reached.now lost.0 false) && (c.args.grant_option_for || not (get_or c.args.named.now lost.0 false))) (c.loop-index.invariant lost.0 (omega (arith, lost.1, c.loop-index-test.false))) lost.2),
)
