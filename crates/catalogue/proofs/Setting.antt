-- One item of a list in the order of names, changed where a binary search found it.
use Rattle.std.proofs.Common.{◌≡◌, ℕ, zero, suc, ◌<◌, Bool, true, false, cond, List, [], ◌∷◌, length, get_or, Some, None, Ok, find, bytes_eq, refl, sym, ap, ◌∙◌, subst, inl, inr, arith}
use Rattle.std.specs.Prelude.{slice_set}
use Rattle.std.specs.Ordering.{is_eq, ordering_reverse}
use Rattle.std.specs.declared.cmp.Ordering.TheVariants.{Less, Equal}
use Rattle.std.proofs.lemmas.Option.{slice_get-get_or}
use Rattle.store.proofs.Changes.{same_key}
use Rattle.abstract_database.specs.Lists.{TheName, name_cmp, Among, Rising, change_where}
use Rattle.abstract_database.proofs.ElementLemmas.{among_at}
use Rattle.abstract_database.proofs.DescriptorOrder.{names_ordered}
use Rattle.catalogue.proofs.Searching.{same_name, searched_by_name}

module _ {X : Type 0} (name : X → TheName) (n : TheName) (f : X → X) where
  abbrev test : X → Bool
  test x = bytes_eq (name x) n

  pub none_changed : (xs : List X) → ((x : X) → Among x xs → test x ≡ false) → change_where test f xs ≡ xs
  none_changed [] h = refl
  none_changed (x ∷ xs) h =
      ap (λ b. cond b (f x) x ∷ change_where test f xs) (h x (inl refl))
      ∙ ap (λ (ys : List X). x ∷ ys) (none_changed xs (λ y among. h y (inr among)))

  -- no item of the name is there
  pub unchanged : (xs : List X) → find test xs ≡ None → change_where test f xs ≡ xs
  unchanged [] e = refl
  unchanged (x ∷ xs) e = go (test x) e (unchanged xs) where
    go : (b : Bool) → cond b (Some x) (find test xs) ≡ None → (find test xs ≡ None → change_where test f xs ≡ xs) → cond b (f x) x ∷ change_where test f xs ≡ x ∷ xs
    go true h later = cc
    go false h later = ap (λ (ys : List X). x ∷ ys) (later h)

  pub other_name : (x : X) → name_cmp n (name x) ≡ Less → test x ≡ false
  other_name x less = sym (same_name (name x) n) ∙ ap is_eq (names_ordered.antisymm (name x) n ∙ ap ordering_reverse less)

  earlier_name : (x : X) → name_cmp (name x) n ≡ Less → test x ≡ false
  earlier_name x less = sym (same_name (name x) n) ∙ ap is_eq less

  -- the one of the name changes
  pub changed_at : (xs : List X) → Rising (λ x y. name_cmp (name x) (name y)) xs → (i : ℕ) → i < length xs → ((d : X) → name_cmp (name (get_or xs i d)) n ≡ Equal) → (e : X) → slice_set xs i (f (get_or xs i e)) ≡ change_where test f xs
  changed_at [] r i lt is e = absurd (omega (arith, lt))
  changed_at (y ∷ ys) r zero lt is e =
      let same : name y ≡ n = same_key (name y) n (is y) in
      sym (ap (λ b. cond b (f y) y ∷ change_where test f ys) (sym (same_name (name y) n) ∙ ap is_eq (is y))
      ∙ ap (λ (zs : List X). f y ∷ zs) (none_changed ys (λ z among. other_name z (subst (λ v. name_cmp v (name z) ≡ Less) same (r.0 z among)))))
  changed_at (y ∷ ys) r (suc i) lt is e =
      let z = get_or ys i y in
      let same : name z ≡ n = same_key (name z) n (is y) in
      let less : name_cmp (name y) n ≡ Less = subst (λ (v : TheName). name_cmp (name y) v ≡ Less) same (r.0 z (among_at ys i z (slice_get-get_or ys i y (omega (arith, lt))))) in
      sym (ap (λ b. cond b (f y) y ∷ change_where test f ys) (earlier_name y less)
      ∙ ap (λ (zs : List X). y ∷ zs) (sym (changed_at ys r.1 i (omega (arith, lt)) is e)))

-- what a binary search found is what the name finds
pub found_there : {X : Type 0} (name : X → TheName) (n : TheName) (xs : List X) → Rising (λ x y. name_cmp (name x) (name y)) xs → (i : ℕ) → i < length xs → ((d : X) → name_cmp (name (get_or xs i d)) n ≡ Equal)
    → (x : X) → x ≡ get_or xs i x → find (λ y. bytes_eq (name y) n) xs ≡ Some x
found_there name n xs r i lt is x at = sym (searched_by_name name n xs r (Ok i) lt is) ∙ slice_get-get_or xs i x lt ∙ ap Some (sym at)
