use Rattle.std.proofs.Common.{◌≡◌, drop}
use Rattle.store.specs.Records.{has_prefix}
use Rattle.store.proofs.prefix.begins_with.Given as goal

-- the key begins with the prefix if what is left of it begins with what is left of the prefix
abbrev pub invariant-loop-at : goal.invariant-loop-at
invariant-loop-at l = has_prefix l.prefix l.key ≡ has_prefix (drop l.at l.prefix) (drop l.at l.key)
