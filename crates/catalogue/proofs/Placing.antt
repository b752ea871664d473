-- An item put where a binary search found its place, in any order of items.
use Rattle.std.proofs.Common.{◌≡◌, ℕ, zero, suc, ◌<◌, ◌≤◌, cond, List, [], ◌∷◌, length, get_or, slice_get, find, None, Result, MatchResult, refl, sym, ap, ◌∙◌, subst, inl, inr, arith}
use Rattle.std.specs.Prelude.{slice_set}
use Rattle.std.specs.List.{insert}
use Rattle.std.specs.List.Sorted.{IsNonDecreasingBy, IsPartitionPoint, IsSearchInRange, IsBinarySearchResult}
use Rattle.sql_ast.specs.declared.privilege.Descriptor.{Descriptor}
use Rattle.abstract_database.specs.Database.{descriptor_cmp}
use Rattle.abstract_database.specs.Privileges.{same_key}
use Rattle.abstract_database.proofs.DescriptorOrder.{descriptors_ordered}
use Rattle.std.specs.Ordering.{is_lt, is_eq, ordering_reverse, ordering_index}
use Rattle.std.specs.Cmp.{IsTotalOrder}
use Rattle.std.specs.declared.cmp.Ordering.{Ordering}
use Rattle.std.specs.declared.cmp.Ordering.TheVariants.{Less, Equal, Greater}
use Rattle.std.proofs.lemmas.Option.{slice_get-get_or}
use Rattle.abstract_database.specs.Lists.{Among, Rising, put, the_new}
use Rattle.abstract_database.specs.Whole.{Each}
use Rattle.abstract_database.proofs.ElementLemmas.{among_at}
use Rattle.catalogue.specs.Descriptors.{put_each}
use Rattle.catalogue.proofs.Searching.{rise, searched}

module _ {X : Type 0} (cmp : X → X → Ordering) (total : IsTotalOrder cmp) (joined : X → X → X) where
  module _ (x : X) where
    abbrev with_x : List X → List X
    with_x xs = put cmp joined x xs

    abbrev by_order : Ordering → X → List X → List X
    by_order o y ys = cond (is_lt o) (x ∷ y ∷ ys) (cond (is_eq o) (joined y x ∷ ys) (y ∷ with_x ys))

    turned : (y : X) (o : Ordering) → cmp y x ≡ o → cmp x y ≡ ordering_reverse o
    turned y o e = total.antisymm x y ∙ ap ordering_reverse e

    -- at its place among those that are not equal to it
    placed : (xs : List X) (i : ℕ) → i ≤ length xs → ((k : ℕ) (d : X) → k < i → cmp (get_or xs k d) x ≡ Less)
        → ((k : ℕ) (d : X) → i ≤ k → k < length xs → cmp (get_or xs k d) x ≡ Greater) → insert xs i x ≡ with_x xs
    placed [] zero le below above = refl
    placed [] (suc i) le below above = absurd (omega (arith, le))
    placed (y ∷ ys) zero le below above = sym (ap (λ (o : Ordering). by_order o y ys) (turned y Greater (above 0 y (omega arith) (omega arith))))
    placed (y ∷ ys) (suc i) le below above =
        ap (λ (zs : List X). y ∷ zs) (placed ys i (omega (arith, le)) (λ k d lt. below (suc k) d (omega (arith, lt))) (λ k d from lt. above (suc k) d (omega (arith, from)) (omega (arith, lt))))
        ∙ sym (ap (λ (o : Ordering). by_order o y ys) (turned y Less (below 0 y (omega arith))))

    pub inserted_by : (xs : List X) (i : ℕ) → i ≤ length xs → Rising cmp xs
        → (IsNonDecreasingBy (λ y. ordering_index (cmp y x)) xs → IsPartitionPoint (λ y. cmp y x ≡ Less) (λ y. cmp y x ≡ Greater) xs i)
        → insert xs i x ≡ with_x xs
    inserted_by xs i within r parts =
        let p = parts (rise cmp total (λ (y : X). y) x (λ y. is_eq (cmp y x)) (λ y. refl) xs r) in
        placed xs i within (λ k d lt. p.0 k d (omega arith) lt) (λ k d from lt. p.1 k d from lt)

    -- in place of the one that is equal to it
    pub replaced_by : (xs : List X) → Rising cmp xs → (i : ℕ) → i < length xs → ((d : X) → cmp (get_or xs i d) x ≡ Equal) → (e : X) → slice_set xs i (joined (get_or xs i e) x) ≡ with_x xs
    replaced_by [] r i lt is e = absurd (omega (arith, lt))
    replaced_by (y ∷ ys) r zero lt is e = sym (ap (λ (o : Ordering). by_order o y ys) (turned y Equal (is y)))
    replaced_by (y ∷ ys) r (suc i) lt is e =
        let z = get_or ys i y in
        let less : cmp y z ≡ Less = r.0 z (among_at ys i z (slice_get-get_or ys i y (omega (arith, lt)))) in
        let after : cmp x y ≡ Greater = sym (total.congr z x y (is y)) ∙ total.antisymm z y ∙ ap ordering_reverse less in
        ap (λ (zs : List X). y ∷ zs) (replaced_by ys r.1 i (omega (arith, lt)) is e)
        ∙ sym (ap (λ (o : Ordering). by_order o y ys) after)

    -- ---- order

    pub of_with : (xs : List X) (P : X → Type 0) → P x → ((y : X) → Among y xs → P y) → ((y : X) → Among y xs → cmp x y ≡ Equal → P (joined y x)) → (z : X) → Among z (with_x xs) → P z
    of_with [] P here each both z (inl is) = subst P is here
    of_with [] P here each both z (inr h) = absurd h
    of_with (y ∷ ys) P here each both z h = go (cmp x y) refl h (of_with ys P here (λ v among. each v (inr among)) (λ v among. both v (inr among)) z) where
      go : (o : Ordering) → cmp x y ≡ o → Among z (by_order o y ys) → (Among z (with_x ys) → P z) → P z
      go Less e (inl is) later = subst P is here
      go Less e (inr k) later = each z k
      go Equal e (inl is) later = subst P is (both y (inl refl) e)
      go Equal e (inr k) later = each z (inr k)
      go Greater e (inl is) later = subst P is (each y (inl refl))
      go Greater e (inr k) later = later k

    module _ (stays : (y : X) → cmp x y ≡ Equal → (z : X) → cmp (joined y x) z ≡ cmp y z) where
      -- a list in order is so with another item
      pub put_rises : (xs : List X) → Rising cmp xs → Rising cmp (with_x xs)
      put_rises [] r = ((λ z h. absurd h), tt)
      put_rises (y ∷ ys) r = go (cmp x y) refl (put_rises ys r.1) where
        go : (o : Ordering) → cmp x y ≡ o → Rising cmp (with_x ys) → Rising cmp (by_order o y ys)
        go Less c later = (below, r) where
          below : (z : X) → Among z (y ∷ ys) → cmp x z ≡ Less
          below z (inl is) = subst (λ (w : X). cmp x w ≡ Less) is c
          below z (inr among) = total.trans x y z c (r.0 z among)
        go Equal c later = ((λ z among. stays y c z ∙ r.0 z among), r.1)
        go Greater c later = (of_with ys (λ z. cmp y z ≡ Less) (total.antisymm y x ∙ ap ordering_reverse c) r.0 (λ v among e. below v (r.0 v among) e), later) where
          below : (v : X) → cmp y v ≡ Less → cmp x v ≡ Equal → cmp y (joined v x) ≡ Less
          below v less e = total.antisymm y (joined v x) ∙ ap ordering_reverse (stays v e y ∙ total.antisymm v y ∙ ap ordering_reverse less)

  module _ (stays : (x y : X) → cmp x y ≡ Equal → (z : X) → cmp (joined y x) z ≡ cmp y z) where
    pub each_put_rises : (zs xs : List X) → Rising cmp xs → Rising cmp (put_each cmp joined zs xs)
    each_put_rises [] xs r = r
    each_put_rises (z ∷ zs) xs r = each_put_rises zs (put cmp joined z xs) (put_rises z (stays z) xs r)

-- what is so of each and of each that comes is so of each after that
pub of_each_put : (P : Descriptor → Type 0) (added ds : List Descriptor) → Each P added → Each P ds → Each P (put_each descriptor_cmp the_new added ds)
of_each_put P [] ds arriving held = held
of_each_put P (d ∷ added) ds arriving held =
    of_each_put P added (put descriptor_cmp the_new d ds) (λ x among. arriving x (inr among))
    (of_with descriptor_cmp descriptors_ordered the_new d ds P (arriving d (inl refl)) held (λ y among e. arriving d (inl refl)))

-- ---- descriptors that are searched by their key

either_side : (x y : Descriptor) → is_eq (descriptor_cmp y x) ≡ same_key x y
either_side x y = go (descriptor_cmp y x) refl where
  go : (o : Ordering) → descriptor_cmp y x ≡ o → is_eq o ≡ same_key x y
  go Less e = sym (ap is_eq (descriptors_ordered.antisymm x y ∙ ap ordering_reverse e))
  go Equal e = sym (ap is_eq (descriptors_ordered.antisymm x y ∙ ap ordering_reverse e))
  go Greater e = sym (ap is_eq (descriptors_ordered.antisymm x y ∙ ap ordering_reverse e))

pub searched_like : (x : Descriptor) (ds : List Descriptor) → Rising descriptor_cmp ds → (s : Result ℕ ℕ) → IsSearchInRange s (length ds) → IsBinarySearchResult (λ d. descriptor_cmp d x) ds s
    → MatchResult s (λ i. slice_get ds i ≡ find (same_key x) ds) (λ i. find (same_key x) ds ≡ None)
searched_like x ds r s = searched descriptor_cmp descriptors_ordered (λ (d : Descriptor). d) x (same_key x) (either_side x) ds r s
