-- Names that are sorted and then each kept once.
use Rattle.std.proofs.Common.{◌≡◌, ◌<◌, ◌+◌, ◌++◌, ◌∷◌, ◌||◌, [], ℕ, zero, suc, Bool, true, false, cond, List, Bor, bytes_eq, length, get_or, take, drop, arith, refl, sym, ap, ◌∙◌, inl, inr, Ordering, Less}
use Rattle.std.specs.List.{list_any, dedup, dedup_from, AllByRecursion}
use Rattle.std.specs.List.Sorted.{IsSorted, IsPermutation, IsStrictlySortedBy}
use Rattle.std.specs.List.Retain.{IsFiltered, DiffersFromLast}
use Rattle.std.specs.Cmp.Lexicographic.{on_texts}
use Rattle.std.proofs.lemmas.List.{take_more, drop_more}
use Rattle.std.proofs.lemmas.Option.{slice_get_read}
use Rattle.std.proofs.lemmas.List.Filters.{dedup_is}
use Rattle.std.proofs.lemmas.List.Kept.{IsStrictlySortedBy-dedup}
use Rattle.std.proofs.lemmas.List.Sorted.{list_any-IsPermutation}
use Rattle.std.proofs.lemmas.Map.Text.{is_eq-slice_cmp}
use Rattle.abstract_database.specs.Lists.{TheName, Among, Rising, name_cmp, has_name}
use Rattle.abstract_database.proofs.ListLemmas.{bytes_same}
use Rattle.abstract_database.proofs.ElementLemmas.{among_at}
use Rattle.role_membership.specs.Merging.{texts}
use Rattle.role_membership.proofs.Elements.{same_lent}
use Rattle.role_membership.proofs.Names.{has_lent}

texts_push : (ks : List (Bor TheName)) (k : Bor TheName) → texts (ks ++ k ∷ []) ≡ texts ks ++ k.now ∷ []
texts_push [] k = refl
texts_push (x ∷ xs) k = ap (λ (l : List TheName). x.now ∷ l) (texts_push xs k)

pub texts_more : (ks : List (Bor TheName)) (k : Bor TheName) (xs : List TheName) (i : ℕ) (x : TheName) → i < length xs → x ≡ get_or xs i x → k.now ≡ x → texts ks ≡ take i xs → texts (ks ++ k ∷ []) ≡ take (i + 1) xs
texts_more ks k xs i x lt at is so_far =
    texts_push ks k
    ∙ ap (λ (l : List TheName). l ++ k.now ∷ []) so_far
    ∙ ap (λ (n : TheName). take i xs ++ n ∷ []) (is ∙ at)
    ∙ sym (take_more xs i x lt)

-- ---- in order

lent_cmp : Bor TheName → Bor TheName → Ordering
lent_cmp a b = name_cmp a.now b.now

all_below : (k : Bor TheName) (ks : List (Bor TheName)) → AllByRecursion (λ (y : Bor TheName). name_cmp k.now y.now ≡ Less) ks → (s : TheName) → Among s (texts ks) → name_cmp k.now s ≡ Less
all_below k [] h s a = absurd a
all_below k (x ∷ xs) h s (inl is) = sym (ap (name_cmp k.now) is) ∙ h.0
all_below k (x ∷ xs) h s (inr later) = all_below k xs h.1 s later

rising_texts : (ks : List (Bor TheName)) → IsStrictlySortedBy (λ (a b : Bor TheName). name_cmp a.now b.now) ks → Rising name_cmp (texts ks)
unfolding IsStrictlySortedBy
rising_texts [] h = tt
rising_texts (k ∷ ks) h = (all_below k ks h.0, rising_texts ks h.1)

pub rising_of : (sorted kept : List (Bor TheName)) → IsSorted (λ (a b : Bor TheName). name_cmp a.now b.now) sorted → IsFiltered (DiffersFromLast same_lent) [] sorted kept → Rising name_cmp (texts kept)
rising_of sorted kept up filtered =
    rw (dedup_is same_lent sorted kept filtered) (rising_texts (dedup same_lent sorted)
    (IsStrictlySortedBy-dedup (on_texts (λ (b : Bor TheName). b.now)) (λ (a b : Bor TheName). sym (is_eq-slice_cmp a.now b.now)) sorted up))

-- ---- none is lost

module _ (p : Bor TheName → Bool) (same : (a b : Bor TheName) → same_lent a b ≡ true → p a ≡ p b) where
  any_dedup_at : (k x : Bor TheName) (xs : List (Bor TheName)) (b : Bool) → same_lent x k ≡ b → list_any p (dedup_from same_lent k xs) ≡ list_any p (k ∷ xs) → list_any p (dedup_from same_lent x xs) ≡ list_any p (x ∷ xs) →
      list_any p (cond b (dedup_from same_lent k xs) (k ∷ dedup_from same_lent x xs)) ≡ list_any p (k ∷ x ∷ xs)
  any_dedup_at k x xs false e go next = ap (λ (b : Bool). p k || b) next
  any_dedup_at k x xs true e go next =
      go ∙ absorbed (p k) (list_any p xs) ∙ ap (λ (b : Bool). p k || (b || list_any p xs)) (sym (same x k e)) where
        absorbed : (a b : Bool) → (a || b) ≡ (a || (a || b))
        absorbed true b = refl
        absorbed false b = refl

  any_dedup_from : (k : Bor TheName) (xs : List (Bor TheName)) → list_any p (dedup_from same_lent k xs) ≡ list_any p (k ∷ xs)
  any_dedup_from k [] = refl
  any_dedup_from k (x ∷ xs) = any_dedup_at k x xs (same_lent x k) refl (any_dedup_from k xs) (any_dedup_from x xs)

  any_dedup : (xs : List (Bor TheName)) → list_any p (dedup same_lent xs) ≡ list_any p xs
  any_dedup [] = refl
  any_dedup (x ∷ xs) = any_dedup_from x xs

pub same_of : (s : TheName) (names sorted kept : List (Bor TheName)) → IsPermutation names sorted → IsFiltered (DiffersFromLast same_lent) [] sorted kept → has_name s (texts kept) ≡ has_name s (texts names)
same_of s names sorted kept moved filtered =
    let p = λ (k : Bor TheName). bytes_eq s k.now in
    sym (has_lent s kept)
    ∙ ap (list_any p) (dedup_is same_lent sorted kept filtered)
    ∙ any_dedup p (λ (a b : Bor TheName) (e : same_lent a b ≡ true). ap (bytes_eq s) (bytes_same a.now b.now e)) sorted
    ∙ sym (list_any-IsPermutation p names sorted moved)
    ∙ has_lent s names

-- ---- one name after the other

pub length_texts : (ks : List (Bor TheName)) → length (texts ks) ≡ length ks
length_texts [] = refl
length_texts (k ∷ ks) = ap suc (length_texts ks)

text_read : (ks : List (Bor TheName)) (i : ℕ) (d : Bor TheName) → i < length ks → (get_or ks i d).now ≡ get_or (texts ks) i (get_or ks i d).now
text_read [] i d lt = absurd (omega (arith, lt))
text_read (k ∷ ks) zero d lt = refl
text_read (k ∷ ks) (suc i) d lt = text_read ks i d (omega (arith, lt))

rising_from : (xs : List TheName) (i : ℕ) → Rising name_cmp xs → Rising name_cmp (drop i xs)
rising_from [] zero r = tt
rising_from [] (suc i) r = tt
rising_from (x ∷ xs) zero r = r
rising_from (x ∷ xs) (suc i) r = rising_from xs i r.1

-- what a loop over names has at an index
pub record IsAtIndex (xs : List TheName) (i : ℕ) (x : TheName) : Type 0 where
  pub among : Among x xs
  pub first : Among x (drop i xs)
  pub more : take (i + 1) xs ≡ take i xs ++ x ∷ []
  pub less : Rising name_cmp xs → (s : TheName) → Among s (drop (i + 1) xs) → name_cmp x s ≡ Less

pub at_index : (ks : List (Bor TheName)) (i : ℕ) (d : Bor TheName) → i < length ks → IsAtIndex (texts ks) i (get_or ks i d).now
at_index ks i d lt =
    let xs = texts ks in
    let x = (get_or ks i d).now in
    let is : x ≡ get_or xs i x = text_read ks i d lt in
    let within : i < length xs = omega (arith, lt, length_texts ks) in
    let front : drop i xs ≡ x ∷ drop (i + 1) xs = drop_more xs i x within ∙ ap (λ (y : TheName). y ∷ drop (i + 1) xs) (sym is) in
    record {
      among = among_at xs i x (slice_get_read xs (length xs) i x refl within is);
      first = rw front (inl refl);
      more = take_more xs i x within ∙ ap (λ (y : TheName). take i xs ++ y ∷ []) (sym is);
      less = λ r. (rw front at (rising_from xs i r)).0;
    }
