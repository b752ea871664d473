-- What a list of entries names, after an entry was changed or added.
use Rattle.std.proofs.Common.{◌≡◌, ◌≢◌, ◌∙◌, refl, sym, ap, arith, ◌<◌, ℕ, zero, suc, Bool, true, false, if◌then◌else◌, List, [], ◌∷◌, ◌++◌, length, Some, None, position, bytes_eq, string_bytes, slice_index_or, slice_set}
use Rattle.std.proofs.lemmas.Slice.Eq.{bytes_eq-Decides}
use Rattle.std.proofs.lemmas.List.Quantifiers.{position-Some}
use Rattle.std.proofs.lemmas.List.Sums.{fails_before_first}
use Rattle.std.proofs.lemmas.Grind.{common_steps}
use Rattle.systems.specs.declared.entries.Content.{Content}
use Rattle.systems.specs.declared.entries.NamedContent.{NamedContent}
use Rattle.systems.specs.Entries.{content_of}

module _ {D : Type 0} where
  -- an entry is of this name
  abbrev pub is_of : List ℕ → NamedContent D → Bool
  is_of path entry = bytes_eq (string_bytes entry.path) path

  -- one of another name is not
  pub is_other : (path p : List ℕ) (entry : NamedContent D) → is_of path entry ≡ true → p ≢ path → is_of p entry ≡ false
  is_other path p entry is other = by (is_of p entry) refl where
    by : (b : Bool) → is_of p entry ≡ b → b ≡ false
    by false e = refl
    by true e = absurd (other (sym ((bytes_eq-Decides (string_bytes entry.path) p).0 e) ∙ (bytes_eq-Decides (string_bytes entry.path) path).0 is))

  -- the first entry of a name stands at i
  record First (path : List ℕ) (entries : List (NamedContent D)) (i : ℕ) (d : NamedContent D) : Type 0 where
    inside : i < length entries
    is : is_of path (slice_index_or entries i d) ≡ true
    before : (k : ℕ) → k < i → is_of path (slice_index_or entries k d) ≡ false

  first_of_rest : (path : List ℕ) (e : NamedContent D) (entries : List (NamedContent D)) (i : ℕ) (d : NamedContent D) → First path (e ∷ entries) (suc i) d → First path entries i d
  first_of_rest path e entries i d first = record { inside = omega (arith, first.inside); is = first.is; before = λ k lt. first.before (suc k) (omega (arith, lt)) }

  content_at : (path : List ℕ) (entries : List (NamedContent D)) (i : ℕ) (d : NamedContent D) → First path entries i d → content_of entries path ≡ Some (slice_index_or entries i d).content
  content_at path [] i d first = absurd (omega (arith, first.inside))
  content_at path (e ∷ entries) zero d first = ap (λ b. if b then Some e.content else content_of entries path) first.is
  content_at path (e ∷ entries) (suc i) d first =
      ap (λ b. if b then Some e.content else content_of entries path) (first.before zero (omega arith)) ∙ content_at path entries i d (first_of_rest path e entries i d first)

  content_set : (path : List ℕ) (entries : List (NamedContent D)) (i : ℕ) (d new : NamedContent D) → is_of path new ≡ true → First path entries i d → content_of (slice_set entries i new) path ≡ Some new.content
  content_set path [] i d new is first = absurd (omega (arith, first.inside))
  content_set path (e ∷ entries) zero d new is first = ap (λ b. if b then Some new.content else content_of entries path) is
  content_set path (e ∷ entries) (suc i) d new is first =
      ap (λ b. if b then Some e.content else content_of (slice_set entries i new) path) (first.before zero (omega arith)) ∙ content_set path entries i d new is (first_of_rest path e entries i d first)

  pub others_set : (p : List ℕ) (entries : List (NamedContent D)) (i : ℕ) (d new : NamedContent D) → is_of p (slice_index_or entries i d) ≡ false → is_of p new ≡ false → content_of (slice_set entries i new) p ≡ content_of entries p
  others_set p [] i d new was is = refl
  others_set p (e ∷ entries) zero d new was is =
      ap (λ b. if b then Some new.content else content_of entries p) is ∙ sym (ap (λ b. if b then Some e.content else content_of entries p) was)
  others_set p (e ∷ entries) (suc i) d new was is = ap (λ c. if is_of p e then Some e.content else c) (others_set p entries i d new was is)

  first_at : (path : List ℕ) (entries : List (NamedContent D)) (i : ℕ) (d : NamedContent D) → position (is_of path) entries ≡ Some i → First path entries i d
  first_at path entries i d found = let at = position-Some (is_of path) entries i d found in record { inside = at.0; is = at.1; before = at.2 }

  -- ---- the first entry of a name, where there is one

  pub content_found : (path : List ℕ) (entries : List (NamedContent D)) (i : ℕ) (d : NamedContent D) → position (is_of path) entries ≡ Some i → content_of entries path ≡ Some (slice_index_or entries i d).content
  content_found path entries i d found = content_at path entries i d (first_at path entries i d found)

  pub found_is : (path : List ℕ) (entries : List (NamedContent D)) (i : ℕ) (d : NamedContent D) → position (is_of path) entries ≡ Some i → is_of path (slice_index_or entries i d) ≡ true
  found_is path entries i d found = (first_at path entries i d found).is

  pub content_changed : (path : List ℕ) (entries : List (NamedContent D)) (i : ℕ) (d new : NamedContent D) → position (is_of path) entries ≡ Some i → is_of path new ≡ true → content_of (slice_set entries i new) path ≡ Some new.content
  content_changed path entries i d new found is = content_set path entries i d new is (first_at path entries i d found)

  none_at : (path : List ℕ) (entries : List (NamedContent D)) (d : NamedContent D) → ((k : ℕ) → k < length entries → is_of path (slice_index_or entries k d) ≡ false) → content_of entries path ≡ None
  none_at path [] d none = refl
  none_at path (e ∷ entries) d none =
      ap (λ b. if b then Some e.content else content_of entries path) (none zero (omega arith)) ∙ none_at path entries d (λ k lt. none (suc k) (omega (arith, lt)))

  pub not_found : (path : List ℕ) (entries : List (NamedContent D)) → position (is_of path) entries ≡ None → content_of entries path ≡ None
  not_found path [] none = refl
  not_found path (e ∷ entries) none = none_at path (e ∷ entries) e (λ k lt. fails_before_first (is_of path) (e ∷ entries) k e (grind (arith, common_steps)))

  -- ---- an entry that was added

  some_is_no_none : {c : Content D} → Some c ≡ None → ⊥
  some_is_no_none e = cc

  pub content_added : (path : List ℕ) (entries : List (NamedContent D)) (new : NamedContent D) → content_of entries path ≡ None → is_of path new ≡ true → content_of (entries ++ new ∷ []) path ≡ Some new.content
  content_added path [] new none is = ap (λ b. if b then Some new.content else None) is
  content_added path (e ∷ entries) new none is = by (is_of path e) none (λ rest. content_added path entries new rest is) where
    by : (b : Bool) → (if b then Some e.content else content_of entries path) ≡ None → (content_of entries path ≡ None → content_of (entries ++ new ∷ []) path ≡ Some new.content) → (if b then Some e.content else content_of (entries ++ new ∷ []) path) ≡ Some new.content
    by false rest added = added rest
    by true rest added = absurd (some_is_no_none rest)

  pub others_added : (p : List ℕ) (entries : List (NamedContent D)) (new : NamedContent D) → is_of p new ≡ false → content_of (entries ++ new ∷ []) p ≡ content_of entries p
  others_added p [] new is = ap (λ b. if b then Some new.content else None) is
  others_added p (e ∷ entries) new is = ap (λ c. if is_of p e then Some e.content else c) (others_added p entries new is)
