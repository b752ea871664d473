use Rattle.std.proofs.Common.{◌≡◌, drop, bytes_eq}
use Rattle.storage_sizes.proofs.key_order.is_same_from.Given as goal

-- the keys are the same if what is left of them is
abbrev pub invariant-loop-at : goal.invariant-loop-at
invariant-loop-at l = bytes_eq l.key l.other ≡ bytes_eq (drop l.at l.key) (drop l.at l.other)
