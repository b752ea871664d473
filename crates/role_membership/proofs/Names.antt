-- Sets of names, and those of marked memberships.
use Rattle.std.proofs.Common.{◌≡◌, ◌<◌, ◌+◌, ◌++◌, ◌∷◌, ◌↔◌, ◌⊎◌, ◌||◌, ◌&&◌, ◌≤◌, [], ℕ, zero, suc, Bool, true, false, not, cond, List, Some, Bor, bytes_eq, map, length, take, slice_get, get_or, refl, sym, ap, ◌∙◌, subst, inl, inr, ⊎_elim, arith}
use Rattle.std.specs.List.{list_any, list_all, IsDistinct, AllByRecursion}
use Rattle.std.proofs.lemmas.Bool.{cases_lt, or_cases, or_left, or_right}
use Rattle.std.proofs.lemmas.List.{take_all}
use Rattle.std.proofs.lemmas.List.Folds.{list_any_more}
use Rattle.std.proofs.lemmas.Cmp.{nat_list_eq_equiv}
use Rattle.std.proofs.lemmas.Option.{same_Some, slice_get_within}
use Rattle.std.proofs.lemmas.Map.Keys.{IsDistinct-head, IsDistinct-tail}
use Rattle.indexmap.specs.IndexSet.{insert_key}
use Rattle.sql_ast.specs.declared.role.Membership.{Membership}
use Rattle.abstract_database.specs.Lists.{TheName, Among, has_name, has_double}
use Rattle.abstract_database.specs.Roles.{IsIn, is_in, is_of_member, leads_on}
use Rattle.abstract_database.proofs.ListLemmas.{bytes_same, same_bytes}
use Rattle.abstract_database.proofs.ElementLemmas.{any_found, any_holds, index_of}
use Rattle.abstract_database.proofs.ChainLemmas.{led_among, found_role, role_found}
use Rattle.abstract_database.specs.Chains.{IsLedTo, by_start, by_step}
use Rattle.role_membership.specs.Index.{Extends}
use Rattle.role_membership.specs.Chains.{is_of_one, AreMarked, AreRolesAbove, IsOneInOne}
use Rattle.role_membership.proofs.Elements.{same_lent}

-- ---- names that are lent

abbrev pub names_of : List (Bor TheName) → List TheName
names_of keys = map (λ name. name.now) keys

among_names : (keys : List (Bor TheName)) (k : Bor TheName) → Among k keys → Among k.now (names_of keys)
among_names [] k h = absurd h
among_names (x ∷ xs) k (inl is) = inl (ap (λ (b : Bor TheName). b.now) is)
among_names (x ∷ xs) k (inr later) = inr (among_names xs k later)

among_left : (xs ys : List (Bor TheName)) (s : TheName) → Among s (names_of xs) → Among s (names_of (xs ++ ys))
among_left [] ys s h = absurd h
among_left (x ∷ xs) ys s (inl is) = inl is
among_left (x ∷ xs) ys s (inr later) = inr (among_left xs ys s later)

among_pushed : (xs : List (Bor TheName)) (k : Bor TheName) → Among k.now (names_of (xs ++ k ∷ []))
among_pushed [] k = inl refl
among_pushed (x ∷ xs) k = inr (among_pushed xs k)

pub of_pushed : (xs : List (Bor TheName)) (k : Bor TheName) (s : TheName) → Among s (names_of (xs ++ k ∷ [])) → Among s (names_of xs) ⊎ (k.now ≡ s)
of_pushed [] k s (inl is) = inr is
of_pushed [] k s (inr h) = absurd h
of_pushed (x ∷ xs) k s (inl is) = inl (inl is)
of_pushed (x ∷ xs) k s (inr later) = ⊎_elim (λ h. inl (inr h)) (λ is. inr is) (of_pushed xs k s later)

module _ (keys : List (Bor TheName)) (k : Bor TheName) where
  into_at : (b : Bool) → list_any (same_lent k) keys ≡ b → (s : TheName) → Among s (names_of keys) ⊎ (k.now ≡ s) → Among s (names_of (cond b keys (keys ++ k ∷ [])))
  into_at true e s (inl h) = h
  into_at true e s (inr is) =
      let found = any_found (same_lent k) keys e in
      subst (λ (n : TheName). Among n (names_of keys)) (sym (bytes_same k.now found.0.now found.2) ∙ is) (among_names keys found.0 found.1)
  into_at false e s (inl h) = among_left keys (k ∷ []) s h
  into_at false e s (inr is) = subst (λ (n : TheName). Among n (names_of (keys ++ k ∷ []))) is (among_pushed keys k)

  of_at : (b : Bool) (s : TheName) → Among s (names_of (cond b keys (keys ++ k ∷ []))) → Among s (names_of keys) ⊎ (k.now ≡ s)
  of_at true s h = inl h
  of_at false s h = of_pushed keys k s h

  -- the names after one more is inserted
  pub into_inserted : (s : TheName) → Among s (names_of keys) ⊎ (k.now ≡ s) → Among s (names_of (insert_key same_lent keys k))
  into_inserted s h = into_at (list_any (same_lent k) keys) refl s h

  pub of_inserted : (s : TheName) → Among s (names_of (insert_key same_lent keys k)) → Among s (names_of keys) ⊎ (k.now ≡ s)
  of_inserted s h = of_at (list_any (same_lent k) keys) s h

-- each name stands where it stood
name_before : (xs ys : List (Bor TheName)) (i : ℕ) (s : TheName) → slice_get (names_of xs) i ≡ Some s → slice_get (names_of (xs ++ ys)) i ≡ Some s
name_before [] ys i s e = cc
name_before (x ∷ xs) ys zero s e = e
name_before (x ∷ xs) ys (suc i) s e = name_before xs ys i s e

pub extends_inserted : (keys : List (Bor TheName)) (k : Bor TheName) → Extends (names_of keys) (names_of (insert_key same_lent keys k))
extends_inserted keys k i s at = go (list_any (same_lent k) keys) where
  go : (b : Bool) → slice_get (names_of (cond b keys (keys ++ k ∷ []))) i ≡ Some s
  go true = at
  go false = name_before keys (k ∷ []) i s at

pub name_at : (keys : List (Bor TheName)) (i : ℕ) (k : Bor TheName) → i < length keys → k ≡ get_or keys i k → slice_get (names_of keys) i ≡ Some k.now
name_at [] i k lt is = absurd (omega (arith, lt))
name_at (x ∷ xs) zero k lt is = ap (λ (b : Bor TheName). Some b.now) (sym is)
name_at (x ∷ xs) (suc i) k lt is = name_at xs i k (omega (arith, lt)) is

-- the test over names that are lent
pub has_lent : (name : TheName) (keys : List (Bor TheName)) → list_any (λ (k : Bor TheName). bytes_eq name k.now) keys ≡ has_name name (names_of keys)
has_lent name [] = refl
has_lent name (k ∷ ks) = ap (λ (b : Bool). bytes_eq name k.now || b) (has_lent name ks)

none_equal : (name : TheName) (ks : List (Bor TheName)) → AllByRecursion (λ (k : Bor TheName). bytes_eq name k.now ≡ false) ks → has_name name (names_of ks) ≡ false
none_equal name [] h = refl
none_equal name (k ∷ ks) h = ap (λ (b : Bool). b || has_name name (names_of ks)) h.0 ∙ none_equal name ks h.1

-- distinct keys are distinct names
pub no_double : (keys : List (Bor TheName)) → IsDistinct same_lent keys → has_double (names_of keys) ≡ false
no_double [] h = refl
no_double (k ∷ ks) h = ap (λ (b : Bool). b || has_double (names_of ks)) (none_equal k.now ks (IsDistinct-head same_lent k ks h)) ∙ no_double ks (IsDistinct-tail same_lent k ks h)

pub has_among : (name : TheName) (names : List TheName) → has_name name names ≡ true → Among name names
has_among name names e = let found = any_found (bytes_eq name) names e in subst (λ (n : TheName). Among n names) (sym (bytes_same name found.0 found.2)) found.1

pub among_has : (name : TheName) (names : List TheName) → Among name names → has_name name names ≡ true
among_has name names h = any_holds (bytes_eq name) names name h (same_bytes name name refl)

-- two tests are equal where each holds with the other
pub same_tests : (a b : Bool) → (a ≡ true → b ≡ true) → (b ≡ true → a ≡ true) → a ≡ b
same_tests true b f g = sym (f refl)
same_tests false true f g = g refl
same_tests false false f g = refl

-- ---- chains from one of several roles

module _ (ms : List Membership) (roles : List TheName) where
  pub from_one : (x : Membership) → IsLedTo (is_of_one roles) leads_on ms x → (r : TheName) × Among r roles × IsLedTo (is_of_member r) leads_on ms x
  from_one _ (by_start x h is) = (x.member, has_among x.member roles is, by_start x h (same_bytes x.member x.member refl))
  from_one _ (by_step p x c h e) = let before = from_one p c in (before.0, before.1, by_step p x before.2 h e)

  pub of_one : (r : TheName) → Among r roles → (x : Membership) → IsLedTo (is_of_member r) leads_on ms x → IsLedTo (is_of_one roles) leads_on ms x
  of_one r k _ (by_start x h is) = by_start x h (among_has x.member roles (subst (λ (n : TheName). Among n roles) (sym (bytes_same x.member r is)) k))
  of_one r k _ (by_step p x c h e) = by_step p x (of_one r k p c) h e

-- a name more, as the test finds it
pub has_inserted : (keys : List (Bor TheName)) (k : Bor TheName) (s : TheName) → has_name s (names_of (insert_key same_lent keys k)) ≡ (has_name s (names_of keys) || bytes_eq s k.now)
has_inserted keys k s = same_tests (has_name s (names_of (insert_key same_lent keys k))) (has_name s (names_of keys) || bytes_eq s k.now)
    (λ e. ⊎_elim
    (λ h. or_left (has_name s (names_of keys)) (bytes_eq s k.now) (among_has s (names_of keys) h))
    (λ is. or_right (has_name s (names_of keys)) (bytes_eq s k.now) (same_bytes s k.now (sym is)))
    (of_inserted keys k s (has_among s (names_of (insert_key same_lent keys k)) e)))
    (λ e. among_has s (names_of (insert_key same_lent keys k)) (into_inserted keys k s (elim (or_cases (has_name s (names_of keys)) (bytes_eq s k.now) e) [
      | inl h ↦ inl (has_among s (names_of keys) h)
      | inr is ↦ inr (sym (bytes_same s k.now is))
    ])))

-- ---- the roles of marked memberships

module _ (roles : List TheName) (ms : List Membership) (marks : List Bool) where
  -- one of these roles, or that of one of the first n memberships that has a mark
  abbrev pub IsMarkedRole : ℕ → TheName → Type 0
  IsMarkedRole n s = Among s roles ⊎ ((i : ℕ) × (m : Membership) × (i < n) × (slice_get ms i ≡ Some m) × (get_or marks i false ≡ true) × (m.role ≡ s))

  -- these names are those of the marked ones of the first n
  abbrev pub HaveNames : ℕ → List TheName → Type 0
  HaveNames n names = (s : TheName) → Among s names ↔ IsMarkedRole n s

  marked_later : (n : ℕ) (s : TheName) → IsMarkedRole n s → IsMarkedRole (n + 1) s
  marked_later n s (inl is) = inl is
  marked_later n s (inr there) = inr (there.0, there.1, omega (arith, there.2), there.3, there.4, there.5)

  marked_before : (n : ℕ) (m : Membership) (s : TheName) → slice_get ms n ≡ Some m → IsMarkedRole (n + 1) s → IsMarkedRole n s ⊎ ((get_or marks n false ≡ true) × (m.role ≡ s))
  marked_before n m s at (inl is) = inl (inl is)
  marked_before n m s at (inr there) = elim (cases_lt there.0 n) [
    | inl before ↦ inl (inr (there.0, there.1, before, there.3, there.4, there.5))
    | inr from ↦
        let same : there.0 ≡ n = omega (arith, from, there.2) in
        let is : m ≡ there.1 = same_Some m there.1 (sym at ∙ sym (ap (λ (j : ℕ). slice_get ms j) same) ∙ there.3) in
        inr (sym (ap (λ (j : ℕ). get_or marks j false) same) ∙ there.4, ap (λ (x : Membership). x.role) is ∙ there.5)
  ]

  -- the role of one more membership, where that has a mark
  pub names_more : (n : ℕ) (m : Membership) (mark : Bool) (old new : List TheName) → slice_get ms n ≡ Some m → get_or marks n false ≡ mark
      → ((s : TheName) → Among s new ↔ (Among s old ⊎ ((mark ≡ true) × (m.role ≡ s)))) → HaveNames n old → HaveNames (n + 1) new
  names_more n m mark old new at is inserted have s = (
    λ h. ⊎_elim (λ was. marked_later n s ((have s).0 was)) (λ now. inr (n, m, omega arith, at, is ∙ now.0, now.1)) ((inserted s).0 h),
    λ there. (inserted s).1 (⊎_elim (λ was. inl ((have s).1 was)) (λ now. inr (sym is ∙ now.0, now.1)) (marked_before n m s at there)),
  )

  pub names_none : HaveNames 0 roles
  names_none s = (λ h. inl h, λ there. ⊎_elim (λ h. h) (λ some. absurd (omega (arith, some.2))) there)

  -- all of them are the roles that one of these is in
  pub names_all : (n : ℕ) (names : List TheName) → length ms ≡ n → AreMarked roles ms marks → HaveNames n names → AreRolesAbove ms roles names
  names_all n names all are have s = (
    λ h. ⊎_elim (λ is. (s, is, inl refl)) (λ there.
        let led = from_one ms roles there.1 ((are.each there.0 there.1 there.3).0 there.4) in
        (led.0, led.1, inr (there.1, led.2, there.5))) ((have s).0 h),
    λ is. (have s).1 (⊎_elim (λ e. inl (subst (λ (r : TheName). Among r roles) e is.1)) (λ chain.
        let at = index_of ms chain.0 (led_among (is_of_member is.0) leads_on ms chain.0 chain.1) in
        inr (at.0, chain.0, subst (λ (k : ℕ). at.0 < k) all (slice_get_within ms at.0 chain.0 at.1), at.1, (are.each at.0 chain.0 at.1).1 (of_one ms roles is.0 is.1 chain.0 chain.1), chain.2)) is.2),
  )

-- what chains say the test computes
pub test_of_chains : (ms : List Membership) (role : TheName) (names : List TheName) → ((s : TheName) → Among s names ↔ IsIn ms role s) → (s : TheName) → has_name s names ≡ is_in ms role s
test_of_chains ms role names are s = same_tests (has_name s names) (is_in ms role s)
    (λ e. role_found ms role s ((are s).0 (has_among s names e)))
    (λ e. among_has s names ((are s).1 (found_role ms role s e)))

-- the same where the roles are this one alone
pub of_itself : (ms : List Membership) (role : TheName) (none start roles : List TheName) → none ≡ [] → ((s : TheName) → Among s start ↔ (Among s none ⊎ ((true ≡ true) × (role ≡ s)))) → AreRolesAbove ms start roles → (s : TheName) → Among s roles ↔ IsIn ms role s
of_itself ms role none start roles e is are s = (
  λ h. let one = (are s).0 h in
      ⊎_elim (λ no. absurd (subst (λ (l : List TheName). Among one.0 l) e no)) (λ same. subst (λ (r : TheName). IsIn ms r s) (sym same.1) one.2) ((is one.0).0 one.1),
  λ in_it. (are s).1 (role, (is role).1 (inr (refl, refl)), in_it),
)

pub one_in_one : (ms : List Membership) (roles start above of : List TheName) → ((s : TheName) → Among s start ↔ Among s roles) → AreRolesAbove ms start above → (list_any (λ s. has_name s above) of ≡ true) ↔ IsOneInOne ms roles of
one_in_one ms roles start above of same are = (
  λ e. let found = any_found (λ s. has_name s above) of e in
      let one = (are found.0).0 (has_among found.0 above found.2) in
      (found.0, found.1, (one.0, (same one.0).0 one.1, one.2)),
  λ h. any_holds (λ s. has_name s above) of h.0 h.1 (among_has h.0 above ((are h.0).1 (h.2.0, (same h.2.0).1 h.2.1, h.2.2))),
)

pub test_of_among : (xs ys : List TheName) → ((s : TheName) → Among s xs ↔ Among s ys) → (s : TheName) → has_name s xs ≡ has_name s ys
test_of_among xs ys same s = same_tests (has_name s xs) (has_name s ys)
    (λ e. among_has s ys ((same s).0 (has_among s xs e)))
    (λ e. among_has s xs ((same s).1 (has_among s ys e)))

pub among_of_test : (xs ys : List TheName) → ((s : TheName) → has_name s xs ≡ has_name s ys) → (s : TheName) → Among s xs ↔ Among s ys
among_of_test xs ys same s = (
  λ h. has_among s ys (sym (same s) ∙ among_has s xs h),
  λ h. has_among s xs (same s ∙ among_has s ys h),
)

-- ---- tests over lists

-- one element more, as a loop finds it
pub found_more : {X : Type 0} (f : X → Bool) (xs : List X) (i : ℕ) (x : X) (old new b : Bool) → i < length xs → x ≡ get_or xs i x → b ≡ f x → new ≡ (old || b) → old ≡ list_any f (take i xs) → new ≡ list_any f (take (i + 1) xs)
found_more f xs i x old new b lt is b_is new_is old_is =
    new_is ∙ ap (λ (o : Bool). o || b) old_is
    ∙ ap (λ (c : Bool). list_any f (take i xs) || c) (b_is ∙ ap f is)
    ∙ sym (list_any_more f xs i x lt)

pub found_all : {X : Type 0} (f : X → Bool) (xs : List X) (i : ℕ) (b : Bool) → length xs ≤ i → b ≡ list_any f (take i xs) → b ≡ list_any f xs
found_all f xs i b past is = is ∙ ap (list_any f) (take_all i xs past)

-- the same beside what was there before the loop
pub more_found : {X : Type 0} (f : X → Bool) (xs : List X) (i : ℕ) (x : X) (was old new : Bool) → i < length xs → x ≡ get_or xs i x → old ≡ (was || list_any f (take i xs)) → new ≡ (old || f x) → new ≡ (was || list_any f (take (i + 1) xs))
more_found f xs i x was old new lt is old_is new_is =
    new_is ∙ ap (λ (o : Bool). o || f x) old_is ∙ or_again was (list_any f (take i xs)) (f x)
    ∙ ap (λ (b : Bool). was || (list_any f (take i xs) || b)) (ap f is)
    ∙ ap (λ (b : Bool). was || b) (sym (list_any_more f xs i x lt)) where
      or_again : (a b c : Bool) → ((a || b) || c) ≡ (a || (b || c))
      or_again true b c = refl
      or_again false b c = refl

pub all_found : {X : Type 0} (f : X → Bool) (xs : List X) (i : ℕ) (was new : Bool) → length xs ≤ i → new ≡ (was || list_any f (take i xs)) → new ≡ (was || list_any f xs)
all_found f xs i was new past is = is ∙ ap (λ l. was || list_any f l) (take_all i xs past)

pub same_all : {X : Type 0} (f g : X → Bool) → ((x : X) → f x ≡ g x) → (xs : List X) → list_all f xs ≡ list_all g xs
same_all f g same [] = refl
same_all f g same (x ∷ xs) = ap (λ (b : Bool). b && list_all f xs) (same x) ∙ ap (λ (b : Bool). g x && b) (same_all f g same xs)

pub all_append : {X : Type 0} (f : X → Bool) (xs ys : List X) → list_all f (xs ++ ys) ≡ (list_all f xs && list_all f ys)
all_append f [] ys = refl
all_append f (x ∷ xs) ys = ap (λ (b : Bool). f x && b) (all_append f xs ys) ∙ and_assoc_at (f x) (list_all f xs) (list_all f ys) where
  and_assoc_at : (a b c : Bool) → (a && (b && c)) ≡ ((a && b) && c)
  and_assoc_at true b c = refl
  and_assoc_at false b c = refl

pub and_swap : (a b : Bool) → (a && b) ≡ (b && a)
and_swap true true = refl
and_swap true false = refl
and_swap false true = refl
and_swap false false = refl

pub names_symmetric : (a b : TheName) → bytes_eq a b ≡ bytes_eq b a
names_symmetric a b = nat_list_eq_equiv.symm a b

pub same_grantable : (x y a b p q : Bool) → x ≡ y → a ≡ b → p ≡ q → (x || (not a && p)) ≡ (y || (not b && q))
same_grantable x y a b p q e f g = ap (λ (z : Bool). z || (not a && p)) e ∙ ap (λ (z : Bool). y || (not z && p)) f ∙ ap (λ (z : Bool). y || (not b && z)) g
