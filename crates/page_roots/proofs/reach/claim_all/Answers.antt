use Rattle.std.proofs.Common.{◌+◌, Bool, List, true, refl, get_or, subst, sym, ◌∙◌, arith, inl, inr}
use Rattle.page_roots.proofs.Claiming.{IsClaimedTo, claimed_zero, claimed_more, cannot_claim, marked_or_not}
use Rattle.page_roots.proofs.reach.claim_all.Goals as goal
use Rattle.page_roots.proofs.reach.claim_all.Goals.{else-page-ne0-via-then-page-ne0+else-not-claim, else-page-ne0-via-else-page-ne0}

pub loop-page-preserved : goal.loop-page-preserved
loop-page-preserved c =
    elim c.else-page-ne0.branch [
      | else-page-ne0-via-then-page-ne0+else-not-claim w ↦
          subst (λ (now : List Bool). IsClaimedTo c.args.claimed.now c.args.named.now now (c.loop-page.page-index + 1)) (sym (w.claimed-is ∙ w.claim.ensures.claimed))
          (claimed_more c.args.claimed.now c.args.named.now c.loop-page.claimed c.loop-page.page-index _ refl (omega (arith, w.if-page-ne0.true)) (w.if-not-claim.ensures.free.0 refl) c.loop-page.invariant)
      | else-page-ne0-via-else-page-ne0 w ↦
          subst (λ (now : List Bool). IsClaimedTo c.args.claimed.now c.args.named.now now (c.loop-page.page-index + 1)) (sym w.claimed-is)
          (claimed_zero c.args.claimed.now c.args.named.now c.loop-page.claimed c.loop-page.page-index (omega (arith, w.if-page-ne0.false)) c.loop-page.invariant)
    ]

pub returns-then-not-claim-clause-can : goal.returns-then-not-claim-clause-can
returns-then-not-claim-clause-can c = (
  λ no. absurd cc,
  λ can. elim (marked_or_not (get_or c.loop-page.claimed (get_or c.args.named.now c.loop-page.page-index 0) true)) [
    | inl known ↦ absurd (cannot_claim c.args.claimed.now c.args.named.now c.loop-page.claimed c.loop-page.page-index _ refl (omega (arith, c.if-page-ne0.true)) known c.loop-page.invariant can)
    | inr unmarked ↦ c.if-not-claim.ensures.free.1 unmarked
  ],
)
