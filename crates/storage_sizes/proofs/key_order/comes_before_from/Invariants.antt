use Rattle.std.proofs.Common.{◌≡◌, drop}
use Rattle.std.specs.Cmp.Lexicographic.{slice_cmp}
use Rattle.std.specs.Ordering.{nat_cmp}
use Rattle.storage_sizes.proofs.key_order.comes_before_from.Given as goal

-- what is left of the keys is in the order of the keys
abbrev pub invariant-loop-at : goal.invariant-loop-at
invariant-loop-at l = slice_cmp nat_cmp l.key l.other ≡ slice_cmp nat_cmp (drop l.at l.key) (drop l.at l.other)
