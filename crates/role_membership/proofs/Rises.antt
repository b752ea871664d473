-- Lists of which each element stands before the next.
use Rattle.std.proofs.Common.{◌≡◌, ℕ, zero, suc, ◌<◌, ◌+◌, ◌↔◌, Bool, true, false, IsTrue, List, [], ◌∷◌, length, get_or, Some, slice_get, refl, subst, inl, inr, arith}
use Rattle.std.specs.declared.cmp.Ordering.{Ordering}
use Rattle.std.specs.declared.cmp.Ordering.TheVariants.{Less, Equal, Greater}
use Rattle.std.specs.Ordering.{is_lt}
use Rattle.std.specs.Cmp.{IsTotalOrder}
use Rattle.std.specs.List.{IsAllAdjacentAnswer, AllAdjacentBelow}
use Rattle.std.proofs.lemmas.Option.{same_Some, get_or_from_slice_get}
use Rattle.abstract_database.specs.Lists.{Among, Rising}
use Rattle.abstract_database.proofs.ElementLemmas.{among_at}

-- an earlier element of a rising list stands before a later one
pub rising_at : {X : Type 0} (cmp : X → X → Ordering) (xs : List X) → Rising cmp xs → (i j : ℕ) (x y : X) → slice_get xs i ≡ Some x → slice_get xs j ≡ Some y → i < j → cmp x y ≡ Less
rising_at cmp [] r i j x y e f lt = cc
rising_at cmp (z ∷ zs) r zero zero x y e f lt = absurd (omega (arith, lt))
rising_at cmp (z ∷ zs) r zero (suc j) x y e f lt = subst (λ v. cmp v y ≡ Less) (same_Some z x e) (r.0 y (among_at zs j y f))
rising_at cmp (z ∷ zs) r (suc i) zero x y e f lt = absurd (omega (arith, lt))
rising_at cmp (z ∷ zs) r (suc i) (suc j) x y e f lt = rising_at cmp zs r.1 i j x y e f (omega (arith, lt))

less : (o : Ordering) → true ≡ is_lt o → o ≡ Less
less Less e = refl
less Equal e = cc
less Greater e = cc

not_less : (o : Ordering) → false ≡ is_lt o → o ≡ Less → ⊥
not_less Less e f = cc
not_less Equal e f = cc
not_less Greater e f = cc

module _ {X : Type 0} (cmp : X → X → Ordering) (total : IsTotalOrder cmp) where
  abbrev AreBeforeNext : List X → Type 0
  AreBeforeNext xs = AllAdjacentBelow (λ x y. true ≡ is_lt (cmp x y)) xs (length xs)

  rest_before_next : (x : X) (xs : List X) → AreBeforeNext (x ∷ xs) → AreBeforeNext xs
  rest_before_next x xs h k d lt =
      subst (λ n. true ≡ is_lt (cmp (get_or xs k d) (get_or (x ∷ xs) n d))) {x = suc k + 1} {y = suc (k + 1)} (omega arith) (h (suc k) d (omega (arith, lt)))

  before_both : (x z : X) (zs : List X) → cmp x z ≡ Less → Rising cmp (z ∷ zs) → Rising cmp (x ∷ z ∷ zs)
  before_both x z zs next rest = (before, rest) where
    before : (y : X) → Among y (z ∷ zs) → cmp x y ≡ Less
    before y (inl is) = subst (λ v. cmp x v ≡ Less) is next
    before y (inr later) = total.trans x z y next (rest.0 y later)

  rising_of : (xs : List X) → AreBeforeNext xs → Rising cmp xs
  rising_of [] h = tt
  rising_of (x ∷ []) h = ((λ y among. absurd among), tt)
  rising_of (x ∷ z ∷ zs) h = before_both x z zs (less (cmp x z) (h 0 x (omega arith))) (rising_of (z ∷ zs) (rest_before_next x (z ∷ zs) h))

  element_at : (xs : List X) (i : ℕ) → i < length xs → (x : X) × (slice_get xs i ≡ Some x)
  element_at [] i lt = absurd (omega (arith, lt))
  element_at (x ∷ xs) zero lt = (x, refl)
  element_at (x ∷ xs) (suc i) lt = element_at xs i (omega (arith, lt))

  -- whether each stands before the next says whether the list rises
  pub rising_answer : (xs : List X) (r : Bool) → IsAllAdjacentAnswer (λ x y b. b ≡ is_lt (cmp x y)) xs r → IsTrue r ↔ Rising cmp xs
  rising_answer xs true h = (λ e. rising_of xs h, λ r. refl)
  rising_answer xs false h = (λ e. cc, λ r. absurd (broken r)) where
    broken : Rising cmp xs → ⊥
    broken r =
        let k = h.0 in
        let x = element_at xs k (let lt = h.1 in omega (arith, lt)) in
        let y = element_at xs (k + 1) h.1 in
        let found = rising_at cmp xs r k (k + 1) x.0 y.0 x.1 y.1 (omega arith) in
        let at_x : get_or xs k x.0 ≡ x.0 = get_or_from_slice_get xs k x.0 x.0 x.1 in
        let at_y : get_or xs (k + 1) x.0 ≡ y.0 = get_or_from_slice_get xs (k + 1) y.0 x.0 y.1 in
        not_less (cmp x.0 y.0) (rw (← at_x, ← at_y) (h.2 x.0)) found
