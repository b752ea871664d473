use Rattle.std.proofs.Common.{◌≡◌, ℕ, ◌<◌, Bool, true, false, nat_eq, ◌&&◌, List, [], ◌∷◌, refl, sym, arith, length}
use Rattle.store.specs.Records.{has_prefix}
use Rattle.store.proofs.prefix.begins_with.Goals as goal

-- a prefix is not longer
prefix_longer : (p k : List ℕ) → length k < length p → has_prefix p k ≡ false
prefix_longer [] k longer = absurd (omega (arith, longer))
prefix_longer (x ∷ p) [] longer = refl
prefix_longer (x ∷ p) (y ∷ k) longer = rw (prefix_longer p k (omega (arith, longer))) (never (nat_eq x y))
  where
    never : (t : Bool) → (t && false) ≡ false
    never true = refl
    never false = refl

pub returns-then-key-prefix : goal.returns-then-key-prefix
returns-then-key-prefix c = sym (prefix_longer c.args.prefix.now c.args.key.now c.if-key-prefix.true)
