-- Putting each element before the first that does not come before it sorts a list, and ties keep their order.
use Rattle.std.proofs.Common.{◌≡◌, ◌<◌, ◌+◌, ℕ, zero, suc, Bool, true, false, cond, List, [], ◌∷◌, filter, length, get_or, refl, sym, ap, ◌∙◌, subst, inl, inr, arith, Ordering, Less, Equal, Greater, is_lt, is_eq, is_gt}
use Rattle.std.specs.List.Sorted.{IsPermutation}
use Rattle.std.specs.Ordering.{ordering_reverse}
use Rattle.std.proofs.lemmas.List.Sorted.{IsPermutation-refl, IsPermutation-trans, IsPermutation-cons, IsPermutation-middle}
use Rattle.abstract_database.specs.Lists.{Among}
use Rattle.abstract_database.specs.Queries.{put_before, sorted}
use Rattle.database_laws.specs.Selections.{IsSortOf}
use Rattle.database_laws.proofs.QueryLemmas.{of_put, of_sorted}

-- the order is total among the elements of the list
pub record IsTotalAmong {X : Type 0} (cmp : X → X → Ordering) (xs : List X) : Type 0 where
  pub antisymm : (x y : X) → Among x xs → Among y xs → cmp x y ≡ ordering_reverse (cmp y x)
  pub congr : (x y z : X) → Among x xs → Among y xs → Among z xs → cmp x y ≡ Equal → cmp x z ≡ cmp y z
  pub trans : (x y z : X) → Among x xs → Among y xs → Among z xs → cmp x y ≡ Less → cmp y z ≡ Less → cmp x z ≡ Less

-- ---- the same elements

module _ {X : Type 0} (cmp : X → X → Ordering) where
  put_before_at : (b : Bool) (x y : X) (ys : List X) → IsPermutation (x ∷ ys) (put_before cmp x ys) → IsPermutation (x ∷ y ∷ ys) (cond b (y ∷ put_before cmp x ys) (x ∷ y ∷ ys))
  put_before_at true x y ys go = IsPermutation-trans (x ∷ y ∷ ys) (y ∷ x ∷ ys) (y ∷ put_before cmp x ys) (IsPermutation-middle (x ∷ []) y ys) (IsPermutation-cons y (x ∷ ys) (put_before cmp x ys) go)
  put_before_at false x y ys go = IsPermutation-refl (x ∷ y ∷ ys)

  put_before_permutes : (x : X) (ys : List X) → IsPermutation (x ∷ ys) (put_before cmp x ys)
  put_before_permutes x [] = IsPermutation-refl (x ∷ [])
  put_before_permutes x (y ∷ ys) = put_before_at (is_gt (cmp x y)) x y ys (put_before_permutes x ys)

  pub sorted_permutes : (xs : List X) → IsPermutation xs (sorted cmp xs)
  sorted_permutes [] = IsPermutation-refl []
  sorted_permutes (x ∷ xs) = IsPermutation-trans (x ∷ xs) (x ∷ sorted cmp xs) (sorted cmp (x ∷ xs)) (IsPermutation-cons x xs (sorted cmp xs) (sorted_permutes xs)) (put_before_permutes x (sorted cmp xs))

  -- ---- in order

  -- no later element is less
  abbrev NeverFalls : List X → Type 0
  NeverFalls [] = Unit {0}
  NeverFalls (x ∷ xs) = ((y : X) → Among y xs → is_lt (cmp y x) ≡ false) × NeverFalls xs

  first_two : (x : X) (xs : List X) (d : X) → ((y : X) → Among y xs → is_lt (cmp y x) ≡ false) → 0 + 1 < length (x ∷ xs) → is_lt (cmp (get_or (x ∷ xs) (0 + 1) d) x) ≡ false
  first_two x [] d h below = absurd (omega (arith, below))
  first_two x (y ∷ ys) d h below = h y (inl refl)

  in_order : (xs : List X) → NeverFalls xs → (k : ℕ) (d : X) → k + 1 < length xs → is_lt (cmp (get_or xs (k + 1) d) (get_or xs k d)) ≡ false
  in_order [] h k d below = absurd (omega (arith, below))
  in_order (x ∷ xs) h zero d below = first_two x xs d h.0 below
  in_order (x ∷ xs) h (suc k) d below =
      let next : suc k + 1 ≡ suc (k + 1) = omega arith in
      let fewer : k + 1 < length xs = omega (arith, below) in
      subst (λ n. is_lt (cmp (get_or (x ∷ xs) n d) (get_or xs k d)) ≡ false) (sym next) (in_order xs h.1 k d fewer)

  module _ (cs : List X) (total : IsTotalAmong cmp cs) where
    abbrev Within : List X → Type 0
    Within ys = (y : X) → Among y ys → Among y cs

    not_less : (o : Ordering) → is_gt o ≡ false → is_lt (ordering_reverse o) ≡ false
    not_less Less e = refl
    not_less Equal e = refl
    not_less Greater e = cc

    -- where x is not greater than y and z not less than y, z is not less than x
    after_both : (x y z : X) → Among x cs → Among y cs → Among z cs → (o p : Ordering) → cmp x y ≡ o → cmp y z ≡ p → is_gt o ≡ false → is_lt (cmp z y) ≡ false → is_lt (cmp z x) ≡ false
    after_both x y z hx hy hz Less Less e f g h = ap is_lt (total.antisymm z x hz hx) ∙ ap (λ o. is_lt (ordering_reverse o)) (total.trans x y z hx hy hz e f)
    after_both x y z hx hy hz Less Equal e f g h = ap is_lt (sym (total.congr y z x hy hz hx f)) ∙ ap is_lt (total.antisymm y x hy hx) ∙ ap (λ o. is_lt (ordering_reverse o)) e
    after_both x y z hx hy hz Less Greater e f g h =
        let less : true ≡ is_lt (cmp z y) = ap (λ o. is_lt (ordering_reverse o)) (sym f) ∙ ap is_lt (sym (total.antisymm z y hz hy)) in
        let contrary : true ≡ false = less ∙ h in cc
    after_both x y z hx hy hz Equal p e f g h =
        ap is_lt (total.antisymm z x hz hx) ∙ ap (λ o. is_lt (ordering_reverse o)) (total.congr x y z hx hy hz e) ∙ sym (ap is_lt (total.antisymm z y hz hy)) ∙ h
    after_both x y z hx hy hz Greater p e f g h = cc

    not_less_than_greater : (o : Ordering) → is_gt o ≡ true → is_lt o ≡ false
    not_less_than_greater Less e = cc
    not_less_than_greater Equal e = cc
    not_less_than_greater Greater e = refl

    falls_at : (b : Bool) (x y : X) (ys : List X) → is_gt (cmp x y) ≡ b → Among x cs → Within (y ∷ ys) → NeverFalls (y ∷ ys) → NeverFalls (put_before cmp x ys) → NeverFalls (cond b (y ∷ put_before cmp x ys) (x ∷ y ∷ ys))
    falls_at true x y ys e hx within h go = (
      λ z k. elim (of_put cmp x ys z k) [ inl is ↦ subst (λ w. is_lt (cmp w y) ≡ false) is (not_less_than_greater (cmp x y) e) | inr later ↦ h.0 z later ],
      go,
    )
    falls_at false x y ys e hx within h go = (
      λ z k. elim k [
        | inl is ↦ subst (λ w. is_lt (cmp w x) ≡ false) is (ap is_lt (total.antisymm y x (within y (inl refl)) hx) ∙ not_less (cmp x y) e)
        | inr later ↦ after_both x y z hx (within y (inl refl)) (within z (inr later)) (cmp x y) (cmp y z) refl refl e (h.0 z later)
      ],
      h,
    )

    put_never_falls : (x : X) (ys : List X) → Among x cs → Within ys → NeverFalls ys → NeverFalls (put_before cmp x ys)
    put_never_falls x [] hx within h = (λ z k. absurd k, tt)
    put_never_falls x (y ∷ ys) hx within h = falls_at (is_gt (cmp x y)) x y ys refl hx within h (put_never_falls x ys hx (λ z k. within z (inr k)) h.1)

    sorted_never_falls : (xs : List X) → Within xs → NeverFalls (sorted cmp xs)
    sorted_never_falls [] within = tt
    sorted_never_falls (x ∷ xs) within = put_never_falls x (sorted cmp xs) (within x (inl refl)) (λ y k. within y (inr (of_sorted cmp xs y k))) (sorted_never_falls xs (λ y k. within y (inr k)))

    -- ---- ties

    module _ (z : X) (hz : Among z cs) where
      abbrev ties_with : X → Bool
      ties_with y = is_eq (cmp z y)

      is_equal : (o : Ordering) → is_eq o ≡ true → o ≡ Equal
      is_equal Less e = cc
      is_equal Equal e = refl
      is_equal Greater e = cc

      greater_is_other : (o : Ordering) → is_gt o ≡ true → is_eq o ≡ false
      greater_is_other Less e = cc
      greater_is_other Equal e = cc
      greater_is_other Greater e = refl

      -- of two that stand apart only one ties
      one_ties : (x y : X) → Among x cs → Among y cs → is_gt (cmp x y) ≡ true → ties_with x ≡ true → ties_with y ≡ false
      one_ties x y hx hy e t = ap is_eq (total.congr z x y hz hx hy (is_equal (cmp z x) t)) ∙ greater_is_other (cmp x y) e

      swapped : (a b : Bool) (x y : X) (l : List X) → (a ≡ true → b ≡ false) → cond b (y ∷ cond a (x ∷ l) l) (cond a (x ∷ l) l) ≡ cond a (x ∷ cond b (y ∷ l) l) (cond b (y ∷ l) l)
      swapped true true x y l h = let contrary : true ≡ false = h refl in cc
      swapped true false x y l h = refl
      swapped false b x y l h = refl

      stable_at : (b : Bool) (x y : X) (ys : List X) → is_gt (cmp x y) ≡ b → Among x cs → Among y cs → filter ties_with (put_before cmp x ys) ≡ filter ties_with (x ∷ ys) →
          filter ties_with (cond b (y ∷ put_before cmp x ys) (x ∷ y ∷ ys)) ≡ filter ties_with (x ∷ y ∷ ys)
      stable_at true x y ys e hx hy go =
          ap (λ l. cond (ties_with y) (y ∷ l) l) go ∙ swapped (ties_with x) (ties_with y) x y (filter ties_with ys) (λ t. one_ties x y hx hy e t)
      stable_at false x y ys e hx hy go = refl

      put_stable : (x : X) (ys : List X) → Among x cs → Within ys → filter ties_with (put_before cmp x ys) ≡ filter ties_with (x ∷ ys)
      put_stable x [] hx within = refl
      put_stable x (y ∷ ys) hx within = stable_at (is_gt (cmp x y)) x y ys refl hx (within y (inl refl)) (put_stable x ys hx (λ w k. within w (inr k)))

      sorted_stable : (xs : List X) → Within xs → filter ties_with (sorted cmp xs) ≡ filter ties_with xs
      sorted_stable [] within = refl
      sorted_stable (x ∷ xs) within =
          put_stable x (sorted cmp xs) (within x (inl refl)) (λ y k. within y (inr (of_sorted cmp xs y k)))
          ∙ ap (λ l. cond (ties_with x) (x ∷ l) l) (sorted_stable xs (λ y k. within y (inr k)))

    pub sorts : IsSortOf cmp cs (sorted cmp cs)
    sorts = record {
      permutation = sorted_permutes cs;
      sorted = λ k d low below. in_order (sorted cmp cs) (sorted_never_falls cs (λ y k. k)) k d below;
      stable = λ z hz. sorted_stable z hz cs (λ y k. k);
    }
