-- The index of the descriptors of a table: its order, what its entries say, and what a search in it finds.
use Rattle.std.proofs.Common.{◌≡◌, ℕ, zero, suc, ◌+◌, ◌^◌, ◌<◌, ◌≤◌, Bool, true, false, cond, ◌&&◌, ◌||◌, nat_eq, nat_lt, max, List, [], ◌∷◌, ◌++◌, map, length, get_or, Option, Some, None, Result, slice_get, find, is_none, is_ok, bytes_eq, MatchResult, refl, sym, ap, ◌∙◌, subst, inl, inr, arith}
use Rattle.std.specs.List.{list_any}
use Rattle.std.specs.List.Sorted.{IsPermutation, IsSortedBy, IsNonDecreasingBy, IsSearchInRange, IsBinarySearchResult}
use Rattle.std.specs.Int.{bit_at}
use Rattle.std.specs.Int.Bits.{bit_or}
use Rattle.std.specs.Cmp.{IsTotalOrder, IsStrictWeakOrder}
use Rattle.std.specs.declared.cmp.Ordering.{Ordering}
use Rattle.std.specs.declared.cmp.Ordering.TheVariants.{Less, Equal, Greater}
use Rattle.std.specs.Ordering.{nat_cmp, is_lt, is_eq, ordering_index, ordering_then, ordering_reverse}
use Rattle.std.proofs.Math.ListN.{set}
use Rattle.std.proofs.lemmas.Bool.{cases_lt}
use Rattle.std.proofs.lemmas.Cmp.{nat_cmp_total, then_total}
use Rattle.std.proofs.lemmas.Map.Lookups.{exact_unsigned}
use Rattle.std.proofs.lemmas.Nat.Bits.{bit_at_or, bit_at-lt, bit_at-zero, bit_at-pow_same, bit_at-pow_other}
use Rattle.std.proofs.lemmas.List.Sorted.{list_any-IsPermutation, ranks_by}
use Rattle.std.proofs.lemmas.Option.{slice_get-get_or}
use Rattle.sql_types.specs.Name.{IsName}
use Rattle.sql_ast.specs.declared.privilege.Action.{Action}
use Rattle.sql_ast.specs.declared.privilege.Descriptor.{Descriptor}
use Rattle.sql_ast.specs.declared.privilege.Grantee.TheVariants.{Role}
use Rattle.store.proofs.Changes.{same_key}
use Rattle.abstract_database.specs.Lists.{TheName, name_cmp, Among, Rising}
use Rattle.abstract_database.specs.Database.{action_number, same_action, grantee_name}
use Rattle.abstract_database.proofs.DescriptorOrder.{ordered_by, names_ordered}
use Rattle.catalogue.specs.declared.grants.Granted.{Granted}
use Rattle.catalogue.specs.Grants.{IsIndexOf, IsNamed, AreNamed, is_for, is_of, gives_bit, bit_of, mask_of, has_bit, cmp_with, granted_cmp, is_entry_of, is_entry_for, entry_of, joined, joined_with, join_each}
use Rattle.role_membership.proofs.Rises.{rising_at}
use Rattle.catalogue.proofs.Searching.{searched, searched_any, not_after, found_alone, passes, same_name, both_equal}

-- ---- the order of entries

pub granted_ordered : IsTotalOrder granted_cmp
granted_ordered = then_total (ordered_by names_ordered (λ (x : Granted). grantee_name x.grantee)) (ordered_by nat_cmp_total (λ (x : Granted). action_number x.action))

pub granted_less : IsStrictWeakOrder (λ x y. is_lt (granted_cmp x y))
granted_less = ranks_by granted_ordered (λ x. x)

abbrev NotAfter : Granted → Granted → Type 0
NotAfter x y = granted_cmp x y ≡ Greater → ⊥

less_then : (x y z : Granted) → granted_cmp x y ≡ Less → NotAfter y z → granted_cmp x z ≡ Less
less_then x y z less after = go (granted_cmp y z) refl where
  go : (o : Ordering) → granted_cmp y z ≡ o → granted_cmp x z ≡ Less
  go Less e = granted_ordered.trans x y z less e
  go Equal e = granted_ordered.antisymm x z ∙ ap ordering_reverse (sym (granted_ordered.congr y z x e)) ∙ sym (granted_ordered.antisymm x y) ∙ less
  go Greater e = absurd (after e)

not_after_then : (x y z : Granted) → NotAfter x y → NotAfter y z → NotAfter x z
not_after_then x y z first next greater =
    let back : granted_cmp z x ≡ Less = granted_ordered.antisymm z x ∙ ap ordering_reverse greater in
    next (granted_ordered.antisymm y z ∙ ap ordering_reverse (less_then z x y back first))

-- no entry stands before an earlier one
abbrev pub DoNotFall : List Granted → Type 0
DoNotFall [] = Unit {0}
DoNotFall (x ∷ xs) = ((y : Granted) → Among y xs → NotAfter x y) × DoNotFall xs

not_after_of : (x y : Granted) → is_lt (granted_cmp y x) ≡ false → NotAfter x y
not_after_of x y e greater =
    let less : is_lt (granted_cmp y x) ≡ true = ap is_lt (granted_ordered.antisymm y x ∙ ap ordering_reverse greater) in
    let both : false ≡ true = sym e ∙ less in cc

none_before : (x z : Granted) (zs : List Granted) → NotAfter x z → DoNotFall (z ∷ zs) → (y : Granted) → Among y (z ∷ zs) → NotAfter x y
none_before x z zs next rest y (inl is) = subst (λ v. NotAfter x v) is next
none_before x z zs next rest y (inr later) = not_after_then x z y next (rest.0 y later)

abbrev IsSortedList : List Granted → Type 0
IsSortedList = IsSortedBy (λ x y. is_lt (granted_cmp x y))

rest_sorted : (x : Granted) (xs : List Granted) → IsSortedList (x ∷ xs) → IsSortedList xs
rest_sorted x xs h k d from lt =
    subst (λ n. is_lt (granted_cmp (get_or (x ∷ xs) n d) (get_or xs k d)) ≡ false) {x = suc k + 1} {y = suc (k + 1)} (omega arith) (h (suc k) d (omega arith) (omega (arith, lt)))

pub sorted_do_not_fall : (xs : List Granted) → IsSortedList xs → DoNotFall xs
sorted_do_not_fall [] h = tt
sorted_do_not_fall (x ∷ []) h = ((λ y among. absurd among), tt)
sorted_do_not_fall (x ∷ z ∷ zs) h =
    let rest = sorted_do_not_fall (z ∷ zs) (rest_sorted x (z ∷ zs) h) in
    (none_before x z zs (not_after_of x z (h 0 x (omega arith) (omega arith))) rest, rest)

-- ---- entries joined

module _ (z : Granted) where
  with_after : (y : Granted) (xs : List Granted) → ((x : Granted) → Among x xs → granted_cmp y x ≡ Less) → granted_cmp y z ≡ Less → (w : Granted) → Among w (joined_with z xs) → granted_cmp y w ≡ Less
  with_after y [] h less w (inl is) = subst (λ v. granted_cmp y v ≡ Less) is less
  with_after y [] h less w (inr later) = absurd later
  with_after y (x ∷ []) h less w among = go (is_eq (granted_cmp x z)) among where
    go : (b : Bool) → Among w (cond b (joined x z ∷ []) (x ∷ z ∷ [])) → granted_cmp y w ≡ Less
    go true (inl is) = subst (λ v. granted_cmp y v ≡ Less) is (h x (inl refl))
    go true (inr later) = absurd later
    go false (inl is) = subst (λ v. granted_cmp y v ≡ Less) is (h x (inl refl))
    go false (inr (inl is)) = subst (λ v. granted_cmp y v ≡ Less) is less
    go false (inr (inr later)) = absurd later
  with_after y (x ∷ v ∷ xs) h less w (inl is) = subst (λ u. granted_cmp y u ≡ Less) is (h x (inl refl))
  with_after y (x ∷ v ∷ xs) h less w (inr later) = with_after y (v ∷ xs) (λ u among. h u (inr among)) less w later

  with_rises : (xs : List Granted) → Rising granted_cmp xs → ((x : Granted) → Among x xs → NotAfter x z) → Rising granted_cmp (joined_with z xs)
  with_rises [] r h = ((λ w among. absurd among), tt)
  with_rises (x ∷ []) r h = go (granted_cmp x z) refl where
    go : (o : Ordering) → granted_cmp x z ≡ o → Rising granted_cmp (cond (is_eq o) (joined x z ∷ []) (x ∷ z ∷ []))
    go Less e = (below, ((λ w among. absurd among), tt)) where
      below : (w : Granted) → Among w (z ∷ []) → granted_cmp x w ≡ Less
      below w (inl is) = subst (λ v. granted_cmp x v ≡ Less) is e
      below w (inr later) = absurd later
    go Equal e = ((λ w among. absurd among), tt)
    go Greater e = absurd (h x (inl refl) e)
  with_rises (x ∷ v ∷ xs) r h = (
    with_after x (v ∷ xs) r.0 (less_then x v z (r.0 v (inl refl)) (h v (inr (inl refl)))),
    with_rises (v ∷ xs) r.1 (λ w among. h w (inr among)),
  )

  with_not_after : (w : Granted) → NotAfter z w → (xs : List Granted) → ((x : Granted) → Among x xs → NotAfter x w) → (u : Granted) → Among u (joined_with z xs) → NotAfter u w
  with_not_after w last [] h u (inl is) = subst (λ v. NotAfter v w) is last
  with_not_after w last [] h u (inr later) = absurd later
  with_not_after w last (x ∷ []) h u among = go (is_eq (granted_cmp x z)) among where
    go : (b : Bool) → Among u (cond b (joined x z ∷ []) (x ∷ z ∷ [])) → NotAfter u w
    go true (inl is) = subst (λ v. NotAfter v w) is (h x (inl refl))
    go true (inr later) = absurd later
    go false (inl is) = subst (λ v. NotAfter v w) is (h x (inl refl))
    go false (inr (inl is)) = subst (λ v. NotAfter v w) is last
    go false (inr (inr later)) = absurd later
  with_not_after w last (x ∷ v ∷ xs) h u (inl is) = subst (λ t. NotAfter t w) is (h x (inl refl))
  with_not_after w last (x ∷ v ∷ xs) h u (inr later) = with_not_after w last (v ∷ xs) (λ t among. h t (inr among)) u later

each_rises : (xs zs : List Granted) → Rising granted_cmp xs → ((x : Granted) → Among x xs → (z : Granted) → Among z zs → NotAfter x z) → DoNotFall zs → Rising granted_cmp (join_each xs zs)
each_rises xs [] r h f = r
each_rises xs (z ∷ zs) r h f =
    each_rises (joined_with z xs) zs (with_rises z xs r (λ x among. h x among z (inl refl)))
    (λ u there w later. with_not_after z w (f.0 w later) xs (λ x among. h x among w (inr later)) u there) f.1

-- the entries stand in their order
pub index_rises : (sorted : List Granted) → DoNotFall sorted → Rising granted_cmp (join_each [] sorted)
index_rises sorted f = each_rises [] sorted tt (λ x among. absurd among) f

-- ---- what entries say

-- what two entries of one grantee and action say joined, one of them says
abbrev JoinsAsOr : (Granted → Bool) → Type 0
JoinsAsOr p = (x y : Granted) → granted_cmp x y ≡ Equal → p (joined x y) ≡ (p x || p y)

one_of : (a b c : Bool) → c ≡ (a || b) → (c || false) ≡ ((a || false) || b)
one_of true b c e = ap (λ d. d || false) e
one_of false true c e = ap (λ d. d || false) e
one_of false false c e = ap (λ d. d || false) e

either_of : (a b : Bool) → (a || (b || false)) ≡ ((a || false) || b)
either_of true b = refl
either_of false true = refl
either_of false false = refl

pub grouped : (a b c : Bool) → (a || (b || c)) ≡ ((a || b) || c)
grouped true b c = refl
grouped false b c = refl

or_none : (b : Bool) → b ≡ (b || false)
or_none true = refl
or_none false = refl

module _ (p : Granted → Bool) (joins : JoinsAsOr p) where
  any_with : (z : Granted) (xs : List Granted) → list_any p (joined_with z xs) ≡ (list_any p xs || p z)
  any_with z [] = sym (or_none (p z))
  any_with z (x ∷ []) = go (granted_cmp x z) refl where
    go : (o : Ordering) → granted_cmp x z ≡ o → list_any p (cond (is_eq o) (joined x z ∷ []) (x ∷ z ∷ [])) ≡ ((p x || false) || p z)
    go Less e = either_of (p x) (p z)
    go Equal e = one_of (p x) (p z) (p (joined x z)) (joins x z e)
    go Greater e = either_of (p x) (p z)
  any_with z (x ∷ v ∷ xs) = ap (λ b. p x || b) (any_with z (v ∷ xs)) ∙ grouped (p x) (list_any p (v ∷ xs)) (p z)

  any_each : (xs zs : List Granted) → list_any p (join_each xs zs) ≡ (list_any p xs || list_any p zs)
  any_each xs [] = or_none (list_any p xs)
  any_each xs (z ∷ zs) = any_each (joined_with z xs) zs ∙ ap (λ b. b || list_any p zs) (any_with z xs) ∙ sym (grouped (list_any p xs) (p z) (list_any p zs))

-- ---- masks

max_bit : (a b : ℕ) → a < 2 → b < 2 → nat_eq (max a b) 1 ≡ (nat_eq a 1 || nat_eq b 1)
max_bit zero zero h k = refl
max_bit zero (suc zero) h k = refl
max_bit (suc zero) zero h k = refl
max_bit (suc zero) (suc zero) h k = refl
max_bit (suc (suc a)) b h k = absurd (omega (arith, h))
max_bit a (suc (suc b)) h k = absurd (omega (arith, k))

pub has_bit_or : (m n k : ℕ) → has_bit (bit_or m n) k ≡ (has_bit m k || has_bit n k)
has_bit_or m n k = ap (λ b. nat_eq b 1) (bit_at_or m n k) ∙ max_bit (bit_at m k) (bit_at n k) (bit_at-lt m k) (bit_at-lt n k)

same_number : (m n : ℕ) → nat_eq m n ≡ true → m ≡ n
same_number m n e = search (e, arith)

other_number : (m n : ℕ) → nat_eq m n ≡ false → n ≡ m → ⊥
other_number m n e is = let both : nat_eq m n ≡ true = search (is, arith) in let no : false ≡ true = sym e ∙ both in cc

bit_alone : (k n : ℕ) → has_bit (2 ^ k) n ≡ nat_eq k n
bit_alone k n = go (nat_eq k n) refl where
  go : (b : Bool) → nat_eq k n ≡ b → has_bit (2 ^ k) n ≡ b
  go true e = ap (λ m. nat_eq m 1) (subst (λ m. bit_at (2 ^ k) m ≡ 1) (same_number k n e) (bit_at-pow_same k))
  go false e = ap (λ m. nat_eq m 1) (bit_at-pow_other k n (other_number k n e))

past_bits : (i n : ℕ) → nat_lt i 31 ≡ false → n < 32 → false ≡ nat_eq (i + 1) n
past_bits i n e lt = search (e, lt, arith)

pub mask_says : (c : Option ℕ) (n : ℕ) → n < 32 → has_bit (mask_of c) n ≡ nat_eq (bit_of c) n
mask_says None n lt = bit_alone 0 n
mask_says (Some i) n lt = go (nat_lt i 31) refl where
  go : (b : Bool) → nat_lt i 31 ≡ b → has_bit (cond b (2 ^ (i + 1)) 0) n ≡ nat_eq (i + 1) n
  go true e = bit_alone (i + 1) n
  go false e = ap (λ m. nat_eq m 1) (bit_at-zero n) ∙ past_bits i n e lt

-- ---- the tests of an index

pub both_parts : (a b : Ordering) → ordering_then a b ≡ Equal → (a ≡ Equal) × (b ≡ Equal)
both_parts Less b e = cc
both_parts Equal b e = (refl, e)
both_parts Greater b e = cc

module _ (x y : Granted) (e : granted_cmp x y ≡ Equal) where
  same_grantee : grantee_name x.grantee ≡ grantee_name y.grantee
  same_grantee = same_key (grantee_name x.grantee) (grantee_name y.grantee) (both_parts (name_cmp (grantee_name x.grantee) (grantee_name y.grantee)) (nat_cmp (action_number x.action) (action_number y.action)) e).0

  same_number_of : action_number x.action ≡ action_number y.action
  same_number_of = exact_unsigned (action_number x.action) (action_number y.action) (both_parts (name_cmp (grantee_name x.grantee) (grantee_name y.grantee)) (nat_cmp (action_number x.action) (action_number y.action)) e).1

  same_for : (g : TheName) → is_entry_for g x ≡ is_entry_for g y
  same_for g = ap (λ (n : TheName). bytes_eq n g) same_grantee

  pub same_of : (g : TheName) (a : Action) → is_entry_of g a x ≡ is_entry_of g a y
  same_of g a = ap (λ b. b && same_action x.action a) (same_for g) ∙ ap (λ n. is_entry_for g y && nat_eq n (action_number a)) same_number_of

shared : (b m n : Bool) → (b && (m || n)) ≡ ((b && m) || (b && n))
shared true m n = refl
shared false m n = refl

twice : (b : Bool) → b ≡ (b || b)
twice true = refl
twice false = refl

pub bits_join : (a : Action) (g : TheName) (n : ℕ) → JoinsAsOr (λ x. is_entry_of g a x && has_bit x.mask n)
bits_join a g n x y e =
    let of = is_entry_of g a x in
    ap (λ b. of && b) (has_bit_or x.mask y.mask n) ∙ shared of (has_bit x.mask n) (has_bit y.mask n)
    ∙ ap (λ b. (of && has_bit x.mask n) || (b && has_bit y.mask n)) (same_of x y e g a)

entries_join : (g : TheName) (a : Action) → JoinsAsOr (is_entry_of g a)
entries_join g a x y e = twice (is_entry_of g a x) ∙ ap (λ b. is_entry_of g a x || b) (same_of x y e g a)

pub anded : (a b : Bool) → (a && b) ≡ (b && a)
anded true true = refl
anded true false = refl
anded false true = refl
anded false false = refl

pub of_entry : (a : Action) (g : TheName) (d : Descriptor) → is_entry_of g a (entry_of d) ≡ is_of a g d
of_entry a g d = anded (is_for g d) (same_action d.action a)

pub any_entries : (p : Granted → Bool) (t : Descriptor → Bool) → ((d : Descriptor) → p (entry_of d) ≡ t d) → (ds : List Descriptor) → list_any p (map entry_of ds) ≡ list_any t ds
any_entries p t h [] = refl
any_entries p t h (d ∷ ds) = ap (λ b. b || list_any p (map entry_of ds)) (h d) ∙ ap (λ b. t d || b) (any_entries p t h ds)

pub turned : (g a b : Bool) → ((g && a) && b) ≡ (a && b && g)
turned true true true = refl
turned true true false = refl
turned true false b = refl
turned false true true = refl
turned false true false = refl
turned false false b = refl

-- the joined entries of the descriptors are their index
pub is_index : (ds : List Descriptor) (sorted : List Granted) → AreNamed ds → IsPermutation (map entry_of ds) sorted → IsIndexOf ds (join_each [] sorted)
is_index ds sorted named moved = record {
  named = named;
  bits = λ a g n lt.
      let p = λ (x : Granted). is_entry_of g a x && has_bit x.mask n in
      any_each p (bits_join a g n) [] sorted ∙ sym (list_any-IsPermutation p (map entry_of ds) sorted moved)
      ∙ any_entries p (gives_bit a g n) (λ d. ap (λ b. is_entry_of g a (entry_of d) && b) (mask_says d.column n lt) ∙ turned (is_for g d) (same_action d.action a) (nat_eq (bit_of d.column) n)) ds;
  entries = λ a g.
      any_each (is_entry_of g a) (entries_join g a) [] sorted ∙ sym (list_any-IsPermutation (is_entry_of g a) (map entry_of ds) sorted moved)
      ∙ any_entries (is_entry_of g a) (is_of a g) (of_entry a g) ds;
}

-- ---- names

pub role_is_named : (name : TheName) → IsName name → bytes_eq name [] ≡ false
role_is_named [] is = absurd (omega (arith, is.some_byte))
role_is_named (b ∷ bs) is = refl

pub one_more_named : (ds : List Descriptor) (d : Descriptor) → AreNamed ds → IsNamed d.grantee → AreNamed (ds ++ d ∷ [])
one_more_named [] d named is x (inl same) = subst (λ (e : Descriptor). IsNamed e.grantee) same is
one_more_named [] d named is x (inr later) = absurd later
one_more_named (e ∷ es) d named is x (inl same) = named x (inl same)
one_more_named (e ∷ es) d named is x (inr later) = one_more_named es d (λ y among. named y (inr among)) is x later

-- ---- the last entry

module _ (z : Granted) where
  -- it is joined with the one that follows
  pub joined_last : (xs : List Granted) (n : ℕ) (c d : Granted) → length xs ≡ suc n → is_eq (granted_cmp (get_or xs n c) z) ≡ true → set xs n (joined (get_or xs n d) z) ≡ joined_with z xs
  joined_last [] n c d e h = absurd (omega (arith, e))
  joined_last (x ∷ []) zero c d e h = sym (ap (λ b. cond b (joined x z ∷ []) (x ∷ z ∷ [])) h)
  joined_last (x ∷ []) (suc n) c d e h = absurd (omega (arith, e))
  joined_last (x ∷ v ∷ xs) zero c d e h = absurd (omega (arith, e))
  joined_last (x ∷ v ∷ xs) (suc n) c d e h = ap (λ (ys : List Granted). x ∷ ys) (joined_last (v ∷ xs) n c d (omega (arith, e)) h)

  -- or is another's
  pub pushed_last : (xs : List Granted) (n : ℕ) (d : Granted) → length xs ≡ suc n → is_eq (granted_cmp (get_or xs n d) z) ≡ false → xs ++ z ∷ [] ≡ joined_with z xs
  pushed_last [] n d e h = absurd (omega (arith, e))
  pushed_last (x ∷ []) zero d e h = sym (ap (λ b. cond b (joined x z ∷ []) (x ∷ z ∷ [])) h)
  pushed_last (x ∷ []) (suc n) d e h = absurd (omega (arith, e))
  pushed_last (x ∷ v ∷ xs) zero d e h = absurd (omega (arith, e))
  pushed_last (x ∷ v ∷ xs) (suc n) d e h = ap (λ (ys : List Granted). x ∷ ys) (pushed_last (v ∷ xs) n d (omega (arith, e)) h)

  pub pushed_first : (xs : List Granted) → length xs ≡ 0 → xs ++ z ∷ [] ≡ joined_with z xs
  pushed_first [] e = refl
  pushed_first (x ∷ xs) e = absurd (omega (arith, e))

-- ---- searches

same_numbers : (m n : ℕ) → is_eq (nat_cmp m n) ≡ nat_eq m n
same_numbers m n = go (nat_lt m n) (nat_eq m n) refl refl where
  go : (a b : Bool) → nat_lt m n ≡ a → nat_eq m n ≡ b → is_eq (cond a Less (cond b Equal Greater)) ≡ b
  go true true e f = search (e, f, arith)
  go true false e f = refl
  go false true e f = refl
  go false false e f = refl

pub same_entry : (g : TheName) (a : Action) (x : Granted) → is_eq (cmp_with g a x) ≡ is_entry_of g a x
same_entry g a x =
    both_equal (name_cmp (grantee_name x.grantee) g) (nat_cmp (action_number x.action) (action_number a))
    ∙ ap (λ b. b && is_eq (nat_cmp (action_number x.action) (action_number a))) (same_name (grantee_name x.grantee) g)
    ∙ ap (λ b. is_entry_for g x && b) (same_numbers (action_number x.action) (action_number a))

abbrev key_entry : TheName → Action → Granted
key_entry g a = record { grantee = Role g; action = a; mask = 0 }

module _ (g : TheName) (a : Action) (xs : List Granted) (r : Rising granted_cmp xs) where
  pub searched_entry : (s : Result ℕ ℕ) → IsSearchInRange s (length xs) → IsBinarySearchResult (cmp_with g a) xs s
      → MatchResult s (λ i. slice_get xs i ≡ find (is_entry_of g a) xs) (λ i. find (is_entry_of g a) xs ≡ None)
  searched_entry s = searched granted_cmp granted_ordered (λ (x : Granted). x) (key_entry g a) (is_entry_of g a) (same_entry g a) xs r s

  -- what is found has the bits of what is given
  pub bit_as_found : (n : ℕ) → n < 32 → (ds : List Descriptor) → IsIndexOf ds xs → passes (λ (x : Granted). has_bit x.mask n) (find (is_entry_of g a) xs) ≡ list_any (gives_bit a g n) ds
  bit_as_found n few ds index =
      sym (found_alone granted_cmp granted_ordered (λ (x : Granted). x) (key_entry g a) (is_entry_of g a) (same_entry g a) (λ (x : Granted). has_bit x.mask n) xs r)
      ∙ index.bits a g n few

module _ (g : TheName) where
  abbrev by_grantee : Granted → ℕ
  by_grantee x = ordering_index (name_cmp (grantee_name x.grantee) g)

  grantees_rise : (x y : Granted) → granted_cmp x y ≡ Less → by_grantee x ≤ by_grantee y
  grantees_rise x y less = go (name_cmp (grantee_name x.grantee) (grantee_name y.grantee)) refl less where
    go : (o : Ordering) → name_cmp (grantee_name x.grantee) (grantee_name y.grantee) ≡ o → ordering_then o (nat_cmp (action_number x.action) (action_number y.action)) ≡ Less → by_grantee x ≤ by_grantee y
    go Less e h = not_after name_cmp names_ordered (λ (v : Granted). grantee_name v.grantee) g (is_entry_for g) (λ v. same_name (grantee_name v.grantee) g) x y e (name_cmp (grantee_name x.grantee) g) (name_cmp (grantee_name y.grantee) g) refl refl
    go Equal e h = let same : by_grantee x ≡ by_grantee y = ap ordering_index (names_ordered.congr (grantee_name x.grantee) (grantee_name y.grantee) g e) in omega (arith, same)
    go Greater e h = cc

  rise_by_grantee : (xs : List Granted) → Rising granted_cmp xs → IsNonDecreasingBy by_grantee xs
  rise_by_grantee xs r i j d le lt = elim (cases_lt i j) [
    | inl first ↦
        let x = get_or xs i d in
        let y = get_or xs j d in
        grantees_rise x y (rising_at granted_cmp xs r i j x y (slice_get-get_or xs i d (omega (arith, le, lt))) (slice_get-get_or xs j d lt) first)
    | inr from ↦
        let same : i ≡ j = omega (arith, le, from) in
        let e : by_grantee (get_or xs i d) ≡ by_grantee (get_or xs j d) = ap (λ n. by_grantee (get_or xs n d)) same in
        omega (arith, e)
  ]

  -- a search by name says whether there is an entry for the grantee
  pub searched_grantee : (xs : List Granted) → Rising granted_cmp xs → (s : Result ℕ ℕ) → IsSearchInRange s (length xs) → IsBinarySearchResult (λ x. name_cmp (grantee_name x.grantee) g) xs s → is_ok s ≡ list_any (is_entry_for g) xs
  searched_grantee xs r s within position =
      searched_any name_cmp names_ordered (λ (v : Granted). grantee_name v.grantee) g (is_entry_for g) (λ v. same_name (grantee_name v.grantee) g) xs (rise_by_grantee xs r) s within position
