use Rattle.std.proofs.Common.{◌≡◌, drop}
use Rattle.store.specs.Walks.{is_within}
use Rattle.store.proofs.cursor.is_within.Given as goal

-- the key is within the stop if what is left of it is within what is left of the stop
abbrev pub invariant-loop-at : goal.invariant-loop-at
invariant-loop-at l = is_within l.stop l.key ≡ is_within (drop l.at l.stop) (drop l.at l.key)
