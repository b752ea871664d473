use Rattle.std.proofs.Common.{◌≡◌, ◌∷◌, ◌++◌, drop, length}
use Rattle.catalogue_changes.proofs.encode.push_key.Given as goal

-- the indices to come are left to append
abbrev pub invariant-loop-index : goal.invariant-loop-index
invariant-loop-index l = l.fn.out.items ++ length l.key ∷ l.key ≡ l.out.items ++ drop l.index-index l.key
