-- What a binary search finds in a list that rises by a key.
use Rattle.std.proofs.Common.{◌≡◌, ℕ, zero, suc, ◌<◌, ◌≤◌, Bool, true, false, cond, ◌&&◌, ◌||◌, List, [], ◌∷◌, length, get_or, Option, Some, None, Result, Ok, Err, slice_get, find, is_ok, bytes_eq, Bor, option_copied, option_map, is_some, IfSome, MatchOption, HoldsAt, MatchResult, refl, sym, ap, ◌∙◌, inl, inr, arith}
use Rattle.std.specs.declared.cmp.Ordering.{Ordering}
use Rattle.std.specs.declared.cmp.Ordering.TheVariants.{Less, Equal, Greater}
use Rattle.std.specs.Ordering.{ordering_index, ordering_reverse, ordering_then, is_eq}
use Rattle.std.specs.Cmp.{IsTotalOrder}
use Rattle.std.specs.List.Sorted.{IsNonDecreasingBy, IsPartitionPoint, IsSearchInRange, IsBinarySearchResult}
use Rattle.std.specs.List.{list_any}
use Rattle.std.proofs.lemmas.Bool.{cases_lt}
use Rattle.std.proofs.lemmas.Option.{slice_get-get_or, get_or_from_slice_get, slice_get_within, slice_get_past, slice_get_read}
use Rattle.std.proofs.lemmas.Map.Text.{is_eq-slice_cmp}
use Rattle.std.proofs.lemmas.Cmp.{then_total}
use Rattle.sql_ast.specs.declared.role.Membership.{Membership}
use Rattle.abstract_database.specs.Lists.{TheName, Among, Rising, name_cmp}
use Rattle.abstract_database.specs.Database.{membership_cmp}
use Rattle.abstract_database.specs.Whole.{Each}
use Rattle.abstract_database.proofs.ElementLemmas.{among_at, index_of, any_holds}
use Rattle.abstract_database.proofs.DescriptorOrder.{ordered_by, names_ordered}
use Rattle.role_membership.proofs.Rises.{rising_at}
use Rattle.catalogue.specs.Lookups.{is_membership_of}

pub find_none : {X : Type 0} (test : X → Bool) (xs : List X) → ((x : X) → Among x xs → test x ≡ false) → find test xs ≡ None
find_none test [] h = refl
find_none test (x ∷ xs) h = ap (λ b. cond b (Some x) (find test xs)) (h x (inl refl)) ∙ find_none test xs (λ y among. h y (inr among))

none_any : {X : Type 0} (test : X → Bool) (xs : List X) → ((x : X) → Among x xs → test x ≡ false) → list_any test xs ≡ false
none_any test [] h = refl
none_any test (x ∷ xs) h = ap (λ b. b || list_any test xs) (h x (inl refl)) ∙ none_any test xs (λ y among. h y (inr among))

element_at : {X : Type 0} (xs : List X) (n : ℕ) → n < length xs → (x : X) × (slice_get xs n ≡ Some x)
element_at [] n lt = absurd (omega (arith, lt))
element_at (x ∷ xs) zero lt = (x, refl)
element_at (x ∷ xs) (suc n) lt = element_at xs n (omega (arith, lt))

pub equal : (o : Ordering) → is_eq o ≡ true → o ≡ Equal
equal Less e = cc
equal Equal e = refl
equal Greater e = cc

pub no_more : (b : Bool) → (b || false) ≡ b
no_more true = refl
no_more false = refl

-- whether there is one, and it passes
abbrev pub passes : {X : Type 0} → (X → Bool) → Option X → Bool
passes p None = false
passes p (Some x) = p x

module _ {X K : Type 0} (cmp : K → K → Ordering) (total : IsTotalOrder cmp) (key : X → K) (k : K) (test : X → Bool) (tests : (x : X) → is_eq (cmp (key x) k) ≡ test x) where
  abbrev before : X → X → Ordering
  before x y = cmp (key x) (key y)

  -- beside an element whose key is k, any other compares as beside k
  as_key : (x y : X) → cmp (key x) k ≡ Equal → cmp (key y) (key x) ≡ cmp (key y) k
  as_key x y e = total.antisymm (key y) (key x) ∙ ap ordering_reverse (total.congr (key x) k (key y) e) ∙ sym (total.antisymm (key y) k)

  first_found : (xs : List X) → Rising before xs → (x : X) → Among x xs → cmp (key x) k ≡ Equal → find test xs ≡ Some x
  first_found [] r x h e = absurd h
  first_found (y ∷ ys) r x (inl is) e =
      ap (λ b. cond b (Some y) (find test ys)) (sym (tests y) ∙ ap (λ v. is_eq (cmp (key v) k)) is ∙ ap is_eq e) ∙ ap Some is
  first_found (y ∷ ys) r x (inr later) e =
      ap (λ b. cond b (Some y) (find test ys)) (sym (tests y) ∙ ap is_eq (sym (as_key x y e) ∙ r.0 x later)) ∙ first_found ys r.1 x later e

  -- comparisons with k rise along the list
  pub not_after : (x y : X) → before x y ≡ Less → (a b : Ordering) → cmp (key x) k ≡ a → cmp (key y) k ≡ b → ordering_index a ≤ ordering_index b
  not_after x y less Less b e f = omega arith
  not_after x y less Equal b e f =
      let is : b ≡ Greater = sym f ∙ total.antisymm (key y) k ∙ ap ordering_reverse (sym (total.congr (key x) k (key y) e) ∙ less) in
      omega (arith, ap ordering_index is)
  not_after x y less Greater b e f =
      let below : cmp k (key y) ≡ Less = total.trans k (key x) (key y) (total.antisymm k (key x) ∙ ap ordering_reverse e) less in
      let is : b ≡ Greater = sym f ∙ total.antisymm (key y) k ∙ ap ordering_reverse below in
      omega (arith, ap ordering_index is)

  none_equal : (xs : List X) (i : ℕ) → IsPartitionPoint (λ y. cmp (key y) k ≡ Less) (λ y. cmp (key y) k ≡ Greater) xs i → (x : X) → Among x xs → test x ≡ false
  none_equal xs i parts x among =
      let at = index_of xs x among in
      let is = get_or_from_slice_get xs at.0 x x at.1 in
      let within = slice_get_within xs at.0 x at.1 in
      sym (tests x) ∙ elim (cases_lt at.0 i) [
        | inl lower ↦ ap is_eq (ap (λ v. cmp (key v) k) (sym is) ∙ parts.0 at.0 x (omega arith) lower)
        | inr upper ↦ ap is_eq (ap (λ v. cmp (key v) k) (sym is) ∙ parts.1 at.0 x upper within)
      ]

  -- where comparisons with k rise, a search by key says whether the test finds an element
  pub searched_any : (xs : List X) → IsNonDecreasingBy (λ y. ordering_index (cmp (key y) k)) xs → (s : Result ℕ ℕ) → IsSearchInRange s (length xs) → IsBinarySearchResult (λ y. cmp (key y) k) xs s → is_ok s ≡ list_any test xs
  searched_any xs rise (Ok i) within equal =
      let at = element_at xs i within in
      sym (any_holds test xs at.0 (among_at xs i at.0 at.1) (sym (tests at.0) ∙ ap is_eq (ap (λ v. cmp (key v) k) (sym (get_or_from_slice_get xs i at.0 at.0 at.1)) ∙ equal at.0)))
  searched_any xs rise (Err i) within parts = sym (none_any test xs (none_equal xs i (parts rise)))

  -- of rising elements at most the one that is found passes the test
  none_later : (p : X → Bool) (x : X) (ys : List X) → cmp (key x) k ≡ Equal → ((y : X) → Among y ys → before x y ≡ Less) → list_any (λ v. test v && p v) ys ≡ false
  none_later p x [] e later = refl
  none_later p x (y ∷ ys) e later =
      let other : test y ≡ false = sym (tests y) ∙ ap is_eq (sym (as_key x y e) ∙ total.antisymm (key y) (key x) ∙ ap ordering_reverse (later y (inl refl))) in
      ap (λ b. (b && p y) || list_any (λ v. test v && p v) ys) other ∙ none_later p x ys e (λ v among. later v (inr among))

  pub found_alone : (p : X → Bool) (xs : List X) → Rising before xs → list_any (λ v. test v && p v) xs ≡ passes p (find test xs)
  found_alone p [] r = refl
  found_alone p (x ∷ xs) r = go (test x) refl (found_alone p xs r.1) where
    go : (b : Bool) → test x ≡ b → list_any (λ v. test v && p v) xs ≡ passes p (find test xs)
        → ((b && p x) || list_any (λ v. test v && p v) xs) ≡ passes p (cond b (Some x) (find test xs))
    go true c later = ap (λ b. p x || b) (none_later p x xs (equal (cmp (key x) k) (tests x ∙ c)) r.0) ∙ no_more (p x)
    go false c later = later

  module _ (xs : List X) (r : Rising before xs) where
    pub rise : IsNonDecreasingBy (λ y. ordering_index (cmp (key y) k)) xs
    rise i j d le lt = elim (cases_lt i j) [
      | inl first ↦
          let x = get_or xs i d in
          let y = get_or xs j d in
          not_after x y (rising_at before xs r i j x y (slice_get-get_or xs i d (omega (arith, le, lt))) (slice_get-get_or xs j d lt) first) (cmp (key x) k) (cmp (key y) k) refl refl
      | inr from ↦
          let same : i ≡ j = omega (arith, le, from) in
          let e : ordering_index (cmp (key (get_or xs i d)) k) ≡ ordering_index (cmp (key (get_or xs j d)) k) = ap (λ n. ordering_index (cmp (key (get_or xs n d)) k)) same in
          omega (arith, e)
    ]

    -- a search by key answers where the element is that the test finds
    pub searched : (s : Result ℕ ℕ) → IsSearchInRange s (length xs) → IsBinarySearchResult (λ y. cmp (key y) k) xs s → MatchResult s (λ i. slice_get xs i ≡ find test xs) (λ i. find test xs ≡ None)
    searched (Ok i) within equal =
        let at = element_at xs i within in
        at.1 ∙ sym (first_found xs r at.0 (among_at xs i at.0 at.1) (ap (λ v. cmp (key v) k) (sym (get_or_from_slice_get xs i at.0 at.0 at.1)) ∙ equal at.0))
    searched (Err i) within parts = find_none test xs (none_equal xs i (parts rise))

-- ---- names

pub same_name : (a b : TheName) → is_eq (name_cmp a b) ≡ bytes_eq a b
same_name a b = is_eq-slice_cmp a b

-- by name
pub searched_by_name : {X : Type 0} (key : X → TheName) (name : TheName) (xs : List X) → Rising (λ x y. name_cmp (key x) (key y)) xs → (s : Result ℕ ℕ) → IsSearchInRange s (length xs) → IsBinarySearchResult (λ y. name_cmp (key y) name) xs s
    → MatchResult s (λ i. slice_get xs i ≡ find (λ x. bytes_eq (key x) name) xs) (λ i. find (λ x. bytes_eq (key x) name) xs ≡ None)
searched_by_name key name xs r s = searched name_cmp names_ordered key name (λ x. bytes_eq (key x) name) (λ x. same_name (key x) name) xs r s

-- ---- memberships

memberships_ordered : IsTotalOrder membership_cmp
memberships_ordered = then_total (ordered_by names_ordered (λ (m : Membership). m.role)) (ordered_by names_ordered (λ (m : Membership). m.member))

pub both_equal : (a b : Ordering) → is_eq (ordering_then a b) ≡ (is_eq a && is_eq b)
both_equal Less b = refl
both_equal Equal b = refl
both_equal Greater b = refl

same_membership : (role member : TheName) (m : Membership) → is_eq (ordering_then (name_cmp m.role role) (name_cmp m.member member)) ≡ is_membership_of role member m
same_membership role member m =
    both_equal (name_cmp m.role role) (name_cmp m.member member)
    ∙ ap (λ b. b && is_eq (name_cmp m.member member)) (same_name m.role role) ∙ ap (λ b. bytes_eq m.role role && b) (same_name m.member member)

pub searched_membership : (role member : TheName) (xs : List Membership) → Rising membership_cmp xs → (s : Result ℕ ℕ) → IsSearchInRange s (length xs)
    → IsBinarySearchResult (λ m. ordering_then (name_cmp m.role role) (name_cmp m.member member)) xs s
    → MatchResult s (λ i. slice_get xs i ≡ find (is_membership_of role member) xs) (λ i. find (is_membership_of role member) xs ≡ None)
searched_membership role member xs r s =
    searched membership_cmp memberships_ordered (λ m. m) (record { role = role; member = member; admin = false }) (is_membership_of role member) (same_membership role member) xs r s

-- ---- what is lent

any_found : {X : Type 0} (test : X → Bool) (xs : List X) → is_some (find test xs) ≡ list_any test xs
any_found test [] = refl
any_found {X} test (x ∷ xs) = at (test x) (any_found test xs) where
  at : (b : Bool) → is_some (find test xs) ≡ list_any test xs → is_some (cond b (Some x) (find test xs)) ≡ (b || list_any test xs)
  at true h = refl
  at false h = h

some_lent : {X : Type 0} (o : Option (Bor X)) → is_some o ≡ is_some (option_copied o)
some_lent None = refl
some_lent (Some b) = refl

some_mapped : {X Y : Type 0} (f : X → Y) (o : Option X) → is_some o ≡ is_some (option_map f o)
some_mapped f None = refl
some_mapped f (Some x) = refl

pub is_there : {X : Type 0} (test : X → Bool) (xs : List X) (o : Option (Bor X)) → option_copied o ≡ find test xs → is_some o ≡ list_any test xs
is_there test xs o e = some_lent o ∙ ap is_some e ∙ any_found test xs

pub is_there_as : {X Y : Type 0} (f : X → Y) (test : Y → Bool) (ys : List Y) (o : Option (Bor X)) → option_map f (option_copied o) ≡ find test ys → is_some o ≡ list_any test ys
is_there_as f test ys o e = some_lent o ∙ some_mapped f (option_copied o) ∙ ap is_some e ∙ any_found test ys

pub each_lent : {X : Type 0} (P : X → Type 0) (xs : List X) (i : ℕ) (o : Option (Bor X)) → option_copied o ≡ slice_get xs i → Each P xs → IfSome o (λ b. P b.now)
each_lent P xs i None e h = tt
each_lent P xs i (Some b) e h = h b.now (among_at xs i b.now (sym e))

-- what a slice lends at an index
pub lent_at : {X : Type 0} (xs : List X) (i : ℕ) (o : Option (Bor X)) → MatchOption o (length xs ≤ i) (λ x. (i < length xs) × HoldsAt (λ y. x.now ≡ y) xs i) → option_copied o ≡ slice_get xs i
lent_at xs i None h = sym (slice_get_past xs i h)
lent_at xs i (Some b) h = sym (slice_get_read xs (length xs) i b.now refl h.0 (h.1 b.now))
