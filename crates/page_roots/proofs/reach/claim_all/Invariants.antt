use Rattle.page_roots.proofs.Claiming.{IsClaimedTo}
use Rattle.page_roots.proofs.reach.claim_all.Given as goal

abbrev pub invariant-loop-page : goal.invariant-loop-page
invariant-loop-page l = IsClaimedTo l.fn.claimed l.named l.claimed l.page-index
