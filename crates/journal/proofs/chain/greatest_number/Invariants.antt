use Rattle.journal.proofs.Opening.{IsGreatestBefore}
use Rattle.journal.proofs.chain.greatest_number.Given as goal

-- the greatest number of the sectors before this one
abbrev pub invariant-loop-place : goal.invariant-loop-place
invariant-loop-place l = IsGreatestBefore l.top l.place l.room l.sectors
