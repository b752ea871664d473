-- Memberships in the order of their members: those that stay when some go, and those of one member.
use Rattle.std.proofs.Common.{◌≡◌, ◌&&◌, ◌||◌, ◌<◌, ◌≤◌, ◌+◌, ℕ, zero, suc, Bool, true, false, not, cond, List, [], ◌∷◌, filter, take, drop, length, get_or, refl, sym, ap, ◌∙◌, arith}
use Rattle.std.specs.List.{list_any, prefix_len}
use Rattle.std.specs.List.Sorted.{IsNonDecreasingBy, IsPartitionedBy, IsPartitionPoint}
use Rattle.std.specs.Cmp.{IsTotalOrder, IsStrictWeakOrder}
use Rattle.std.specs.declared.cmp.Ordering.{Ordering}
use Rattle.std.specs.declared.cmp.Ordering.TheVariants.{Less, Equal, Greater}
use Rattle.std.specs.Ordering.{is_lt, is_le, is_eq, ordering_index}
use Rattle.std.proofs.lemmas.Bool.{false≢true}
use Rattle.std.proofs.lemmas.List.Sorted.{ranks_by, searchable_from_sorted}
use Rattle.std.proofs.lemmas.List.Kept.{IsSortedBy-filter}
use Rattle.std.proofs.lemmas.Map.Text.{is_eq-slice_cmp}
use Rattle.sql_ast.specs.declared.role.Membership.{Membership}
use Rattle.abstract_database.specs.Lists.{TheName, Rising, name_cmp}
use Rattle.abstract_database.specs.Database.{membership_cmp}
use Rattle.abstract_database.specs.Roles.{is_of_member}
use Rattle.abstract_database.proofs.DescriptorOrder.{ordered_by, names_ordered}
use Rattle.abstract_database.proofs.ElementLemmas.{of_filter}
use Rattle.role_membership.specs.Index.{AreByMember, AreIndexed, member_cmp}

-- ---- what stays

pub members_ordered : IsTotalOrder member_cmp
members_ordered = ordered_by names_ordered (λ (m : Membership). m.member)

pub members_less : IsStrictWeakOrder (λ x y. is_lt (member_cmp x y))
members_less = ranks_by members_ordered (λ x. x)

rising_kept : {X : Type 0} (cmp : X → X → Ordering) (test : X → Bool) (xs : List X) → Rising cmp xs → Rising cmp (filter test xs)
rising_kept cmp test [] h = tt
rising_kept {X} cmp test (x ∷ xs) h = go (test x) (rising_kept cmp test xs h.1) where
  go : (b : Bool) → Rising cmp (filter test xs) → Rising cmp (cond b (x ∷ filter test xs) (filter test xs))
  go true r = ((λ y among. h.0 y (of_filter test xs y among).0), r)
  go false r = r

pub any_kept : {X : Type 0} (p test : X → Bool) (xs : List X) → list_any test (filter p xs) ≡ list_any (λ x. p x && test x) xs
any_kept p test [] = refl
any_kept p test (x ∷ xs) = go (p x) (any_kept p test xs) where
  go : (b : Bool) → list_any test (filter p xs) ≡ list_any (λ y. p y && test y) xs → list_any test (cond b (x ∷ filter p xs) (filter p xs)) ≡ ((b && test x) || list_any (λ y. p y && test y) xs)
  go true e = ap (λ c. test x || c) e
  go false e = e

pub by_member_kept : (p : Membership → Bool) (ms : List Membership) → AreByMember ms → AreByMember (filter p ms)
by_member_kept p ms sorted = IsSortedBy-filter (λ x y. is_lt (member_cmp x y)) members_less p ms sorted

-- the same ones stay in both orders
pub indexed_kept : (p : Membership → Bool) (ms index : List Membership) → AreIndexed ms index → AreIndexed (filter p ms) (filter p index)
indexed_kept p ms index are = record {
  order = rising_kept membership_cmp p ms are.order;
  members = by_member_kept p index are.members;
  same = λ test. any_kept p test index ∙ are.same (λ m. p m && test m) ∙ sym (any_kept p test ms);
}

-- ---- searches

lt_below : (o p : Ordering) → ordering_index o ≤ ordering_index p → is_lt p ≡ true → is_lt o ≡ true
lt_below Less p le e = refl
lt_below Equal Less le e = absurd (omega (arith, le))
lt_below Equal Equal le e = e
lt_below Equal Greater le e = e
lt_below Greater Less le e = absurd (omega (arith, le))
lt_below Greater Equal le e = e
lt_below Greater Greater le e = e

le_below : (o p : Ordering) → ordering_index o ≤ ordering_index p → is_le p ≡ true → is_le o ≡ true
le_below Less p le e = refl
le_below Equal p le e = refl
le_below Greater Less le e = absurd (omega (arith, le))
le_below Greater Equal le e = absurd (omega (arith, le))
le_below Greater Greater le e = e

module _ (s : TheName) (ms : List Membership) (sorted : AreByMember ms) where
  do_not_fall : IsNonDecreasingBy (λ m. ordering_index (name_cmp m.member s)) ms
  do_not_fall = searchable_from_sorted names_ordered (λ (m : Membership). m.member) ms s sorted

  -- those before the member come first, and so do those that are not after it
  pub before_first : IsPartitionedBy (λ m. is_lt (name_cmp m.member s)) ms
  before_first = λ i j d le lt e. lt_below (name_cmp (get_or ms i d).member s) (name_cmp (get_or ms j d).member s) (do_not_fall i j d le lt) e

  pub up_to_first : IsPartitionedBy (λ m. is_le (name_cmp m.member s)) ms
  up_to_first = λ i j d le lt e. le_below (name_cmp (get_or ms i d).member s) (name_cmp (get_or ms j d).member s) (do_not_fall i j d le lt) e

module _ {X : Type 0} (p : X → Bool) where
  before_point : (xs : List X) (k : ℕ) → ((i : ℕ) (d : X) → i < k → p (get_or xs i d) ≡ true) → ((i : ℕ) (d : X) → k ≤ i → i < length xs → p (get_or xs i d) ≡ false) → take k xs ≡ filter p xs
  before_point [] zero before behind = refl
  before_point [] (suc k) before behind = refl
  before_point (x ∷ xs) zero before behind =
      before_point xs zero (λ i d lt. absurd (omega (arith, lt))) (λ i d le lt. behind (suc i) d (omega arith) (omega (arith, lt)))
      ∙ sym (ap (λ b. cond b (x ∷ filter p xs) (filter p xs)) (behind 0 x (omega arith) (omega arith)))
  before_point (x ∷ xs) (suc k) before behind =
      ap (λ l. x ∷ l) (before_point xs k (λ i d lt. before (suc i) d (omega (arith, lt))) (λ i d le lt. behind (suc i) d (omega (arith, le)) (omega (arith, lt))))
      ∙ sym (ap (λ b. cond b (x ∷ filter p xs) (filter p xs)) (before 0 x (omega arith)))

  from_point : (xs : List X) (k : ℕ) → ((i : ℕ) (d : X) → i < k → p (get_or xs i d) ≡ true) → ((i : ℕ) (d : X) → k ≤ i → i < length xs → p (get_or xs i d) ≡ false) → drop k xs ≡ filter (λ x. not (p x)) xs
  from_point [] zero before behind = refl
  from_point [] (suc k) before behind = refl
  from_point (x ∷ xs) zero before behind =
      ap (λ l. x ∷ l) (from_point xs zero (λ i d lt. absurd (omega (arith, lt))) (λ i d le lt. behind (suc i) d (omega arith) (omega (arith, lt))))
      ∙ sym (ap (λ b. cond (not b) (x ∷ filter (λ x. not (p x)) xs) (filter (λ x. not (p x)) xs)) (behind 0 x (omega arith) (omega arith)))
  from_point (x ∷ xs) (suc k) before behind =
      from_point xs k (λ i d lt. before (suc i) d (omega (arith, lt))) (λ i d le lt. behind (suc i) d (omega (arith, le)) (omega (arith, lt)))
      ∙ sym (ap (λ b. cond (not b) (x ∷ filter (λ x. not (p x)) xs) (filter (λ x. not (p x)) xs)) (before 0 x (omega arith)))

  -- what a search by the test divides
  pub from_search : (xs : List X) (k : ℕ) → IsPartitionPoint (λ y. p y ≡ true) (λ y. p y ≡ false) xs k → drop k xs ≡ filter (λ x. not (p x)) xs
  from_search xs k point = from_point xs k (λ i d lt. point.0 i d (omega arith) lt) (λ i d le lt. point.1 i d le lt)

  -- where those that pass come first, they are as many as pass in a row
  pub before_first_failure : (xs : List X) → IsPartitionedBy p xs → take (prefix_len p xs) xs ≡ filter p xs
  before_first_failure [] parted = refl
  before_first_failure (x ∷ xs) parted = go (p x) refl (before_first_failure xs (λ i j d le lt e. parted (suc i) (suc j) d (omega (arith, le)) (omega (arith, lt)) e)) where
    fails : p x ≡ false → (k : ℕ) (d : X) → k < length xs → (b : Bool) → p (get_or xs k d) ≡ b → p (get_or xs k d) ≡ false
    fails i k d lt false j = j
    fails i k d lt true j = absurd (false≢true (sym i ∙ parted 0 (suc k) d (omega arith) (omega (arith, lt)) j))

    go : (b : Bool) → p x ≡ b → take (prefix_len p xs) xs ≡ filter p xs → take (cond b (1 + prefix_len p xs) 0) (x ∷ xs) ≡ cond b (x ∷ filter p xs) (filter p xs)
    go true i e =
        let one_more : 1 + prefix_len p xs ≡ suc (prefix_len p xs) = omega arith in
        ap (λ k. take k (x ∷ xs)) one_more ∙ ap (λ l. x ∷ l) e
    go false i e = before_point xs zero (λ k d lt. absurd (omega (arith, lt))) (λ k d le lt. fails i k d lt (p (get_or xs k d)) refl)

-- ---- those of one member

filter_twice : {X : Type 0} (p q r : X → Bool) → ((x : X) → r x ≡ (p x && q x)) → (xs : List X) → filter q (filter p xs) ≡ filter r xs
filter_twice p q r same [] = refl
filter_twice p q r same (x ∷ xs) = go (p x) refl (q x) refl (filter_twice p q r same xs) ∙ ap (λ c. cond c (x ∷ filter r xs) (filter r xs)) (sym (same x))
  where
    go : (a : Bool) → p x ≡ a → (b : Bool) → q x ≡ b → filter q (filter p xs) ≡ filter r xs → filter q (cond a (x ∷ filter p xs) (filter p xs)) ≡ cond (a && b) (x ∷ filter r xs) (filter r xs)
    go true i true j e = ap (λ c. cond c (x ∷ filter q (filter p xs)) (filter q (filter p xs))) j ∙ ap (λ l. x ∷ l) e
    go true i false j e = ap (λ c. cond c (x ∷ filter q (filter p xs)) (filter q (filter p xs))) j ∙ e
    go false i b j e = e

neither : (o : Ordering) → is_eq o ≡ (not (is_lt o) && is_le o)
neither Less = refl
neither Equal = refl
neither Greater = refl

-- those that stand neither before the member nor after it are its own
pub run_is : (s : TheName) (ms : List Membership) → filter (λ m. is_le (name_cmp m.member s)) (filter (λ m. not (is_lt (name_cmp m.member s))) ms) ≡ filter (is_of_member s) ms
run_is s ms = filter_twice (λ (m : Membership). not (is_lt (name_cmp m.member s))) (λ m. is_le (name_cmp m.member s)) (is_of_member s)
    (λ m. sym (is_eq-slice_cmp m.member s) ∙ neither (name_cmp m.member s)) ms
