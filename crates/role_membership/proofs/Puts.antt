-- What is put into a list in rising order: the order in which it is put, and doubles, do not matter.
use Rattle.std.proofs.Common.{◌≡◌, ◌++◌, ◌∷◌, ◌&&◌, ◌||◌, ◌+◌, [], ℕ, zero, suc, Bool, true, false, cond, List, map, find, Option, Some, None, bytes_eq, drop, get_or, slice_get, refl, sym, ap, ◌∙◌, subst, inl, inr, Ordering, Less, Equal, Greater, is_eq, is_lt, is_gt}
use Rattle.std.specs.List.{list_any}
use Rattle.std.specs.Ordering.{ordering_then, ordering_reverse}
use Rattle.std.specs.Cmp.{IsTotalOrder}
use Rattle.std.proofs.lemmas.Cmp.{nat_list_cmp_total, then_total}
use Rattle.std.proofs.lemmas.List.Folds.{list_any-append}
use Rattle.std.proofs.lemmas.Map.Text.{is_eq-slice_cmp}
use Rattle.sql_ast.specs.declared.role.Membership.{Membership}
use Rattle.abstract_database.specs.Lists.{TheName, Among, name_cmp, put, Rising, has_name}
use Rattle.abstract_database.specs.Database.{membership_cmp}
use Rattle.abstract_database.specs.Roles.{memberships_of, raised}
use Rattle.abstract_database.proofs.RisingPuts.{alike_behind, before_all, put_rises, reversed}
use Rattle.abstract_database.proofs.ListLemmas.{bytes_same, same_bytes}
use Rattle.std.proofs.lemmas.Bool.{and_parts}
use Rattle.std.proofs.lemmas.List.{append_assoc, drop_more}
use Rattle.std.proofs.lemmas.Option.{same_Some, slice_get_within, slice_get-get_or}
use Rattle.role_membership.proofs.Products.{of_append}
use Rattle.role_membership.specs.Merging.{put_all, membership, AreBefore, AreUpTo}

-- ---- the order

by_name : (f : Membership → TheName) → IsTotalOrder (λ (a b : Membership). name_cmp (f a) (f b))
by_name f = record {
  antisymm = λ a b. nat_list_cmp_total.antisymm (f a) (f b);
  trans = λ a b c. nat_list_cmp_total.trans (f a) (f b) (f c);
  congr = λ a b c. nat_list_cmp_total.congr (f a) (f b) (f c);
}

pub memberships_total : IsTotalOrder membership_cmp
memberships_total = then_total (by_name (λ m. m.role)) (by_name (λ m. m.member))

-- ---- putting into a list in order

module _ {X : Type 0} (cmp : X → X → Ordering) (total : IsTotalOrder cmp) where
  its_own : (o : Ordering) → o ≡ ordering_reverse o → o ≡ Equal
  its_own Less e = cc
  its_own Equal e = refl
  its_own Greater e = cc

  same : (x : X) → cmp x x ≡ Equal
  same x = its_own (cmp x x) (total.antisymm x x)

  -- what is equal to the same is before the same
  alike_to : (x y z : X) → cmp x y ≡ Equal → cmp z x ≡ cmp z y
  alike_to x y z e = total.antisymm z x ∙ ap ordering_reverse (total.congr x y z e) ∙ sym (total.antisymm z y)

  abbrev pub at : X → List X → Option X
  at k xs = find (λ y. is_eq (cmp k y)) xs

  -- none is equal to what stands before all
  none_at : (k : X) (xs : List X) → ((y : X) → Among y xs → cmp k y ≡ Less) → at k xs ≡ None
  none_at k [] h = refl
  none_at k (y ∷ ys) h = ap (λ (o : Ordering). cond (is_eq o) (Some y) (at k ys)) (h y (inl refl)) ∙ none_at k ys (λ z later. h z (inr later))

  at_head : (x : X) (xs : List X) → at x (x ∷ xs) ≡ Some x
  at_head x xs = ap (λ (o : Ordering). cond (is_eq o) (Some x) (at x xs)) (same x)

  some_inside : (x y : X) → ◌≡◌ {A = Option X} (Some x) (Some y) → x ≡ y
  some_inside x y e = cc

  -- behind equal heads the lists have the same
  rest_same_at : (x k : X) (xs ys : List X) (o : Ordering) → cmp k x ≡ o → Rising cmp (x ∷ xs) → Rising cmp (x ∷ ys) → at k (x ∷ xs) ≡ at k (x ∷ ys) → at k xs ≡ at k ys
  rest_same_at x k xs ys Equal e r q h =
      none_at k xs (λ z later. total.congr k x z e ∙ r.0 z later) ∙ sym (none_at k ys (λ z later. total.congr k x z e ∙ q.0 z later))
  rest_same_at x k xs ys Less e r q h =
      sym (ap (λ (p : Ordering). cond (is_eq p) (Some x) (at k xs)) e) ∙ h ∙ ap (λ (p : Ordering). cond (is_eq p) (Some x) (at k ys)) e
  rest_same_at x k xs ys Greater e r q h =
      sym (ap (λ (p : Ordering). cond (is_eq p) (Some x) (at k xs)) e) ∙ h ∙ ap (λ (p : Ordering). cond (is_eq p) (Some x) (at k ys)) e

  -- lists in order that have the same are the same, from their heads on
  only_one_at : (x y : X) (xs ys : List X) (o : Ordering) → cmp x y ≡ o → Rising cmp (x ∷ xs) → Rising cmp (y ∷ ys) → ((k : X) → at k (x ∷ xs) ≡ at k (y ∷ ys)) → (((k : X) → at k xs ≡ at k ys) → xs ≡ ys) → ◌≡◌ {A = List X} (x ∷ xs) (y ∷ ys)
  only_one_at x y xs ys Less e r q h go =
      let contrary : Some x ≡ None = sym (at_head x xs) ∙ h x ∙ none_at x (y ∷ ys) (before_all cmp total x y ys q e) in cc
  only_one_at x y xs ys Greater e r q h go =
      let contrary : Some y ≡ None = sym (at_head y ys) ∙ sym (h y) ∙ none_at y (x ∷ xs) (before_all cmp total y x xs r (reversed cmp total x y Greater e)) in cc
  only_one_at x y xs ys Equal e r q h go =
      let found : ◌≡◌ {A = Option X} (Some x) (Some y) = sym (at_head x xs) ∙ h x ∙ ap (λ (o : Ordering). cond (is_eq o) (Some y) (at x ys)) e in
      let is : x ≡ y = some_inside x y found in
      let q_at_x : Rising cmp (x ∷ ys) = subst (λ (z : X). Rising cmp (z ∷ ys)) (sym is) q in
      ap (λ (l : List X). x ∷ l) (go (λ k. rest_same_at x k xs ys (cmp k x) refl r q_at_x (h k ∙ ap (λ (z : X). at k (z ∷ ys)) (sym is)))) ∙ ap (λ (z : X). z ∷ ys) is

  pub only_one : (xs ys : List X) → Rising cmp xs → Rising cmp ys → ((k : X) → at k xs ≡ at k ys) → xs ≡ ys
  only_one [] [] r q h = refl
  only_one [] (y ∷ ys) r q h = let contrary : None ≡ Some y = h y ∙ at_head y ys in cc
  only_one (x ∷ xs) [] r q h = let contrary : Some x ≡ None = sym (at_head x xs) ∙ h x in cc
  only_one (x ∷ xs) (y ∷ ys) r q h = only_one_at x y xs ys (cmp x y) refl r q h (λ rest. only_one xs ys r.1 q.1 rest)

  module _ (joined : X → X → X) (alike : (x y z : X) → cmp x y ≡ Equal → cmp (joined y x) z ≡ cmp y z) where
    abbrev pub joined_to : Option X → X → X
    joined_to None x = x
    joined_to (Some y) x = joined y x

    -- what is found after a put
    both_equal : (k x y : X) → is_eq (cmp k x) ≡ true → is_eq (cmp k y) ≡ true → cmp x y ≡ Greater → ⊥
    both_equal k x y e f g = both_at (cmp k x) (cmp k y) refl refl e f where
      both_at : (a b : Ordering) → cmp k x ≡ a → cmp k y ≡ b → is_eq a ≡ true → is_eq b ≡ true → ⊥
      both_at Equal Equal a b e f = let contrary : Equal ≡ Greater = sym b ∙ total.congr k x y a ∙ g in cc
      both_at Less b p q e f = cc
      both_at Greater b p q e f = cc
      both_at Equal Less p q e f = cc
      both_at Equal Greater p q e f = cc

    swapped : (a b : Bool) (p q r : Option X) → (a ≡ true → b ≡ true → ⊥) → cond a p (cond b q r) ≡ cond b q (cond a p r)
    swapped true true p q r never = absurd (never refl refl)
    swapped true false p q r never = refl
    swapped false true p q r never = refl
    swapped false false p q r never = refl

    twice : (b : Bool) (p q r : Option X) → cond b p r ≡ cond b p (cond b q r)
    twice true p q r = refl
    twice false p q r = refl

    at_put_at : (k x y : X) (ys : List X) (o : Ordering) → cmp x y ≡ o → Rising cmp (y ∷ ys) →
        at k (put cmp joined x ys) ≡ cond (is_eq (cmp k x)) (Some (joined_to (at x ys) x)) (at k ys) →
        at k (cond (is_lt o) (x ∷ y ∷ ys) (cond (is_eq o) (joined y x ∷ ys) (y ∷ put cmp joined x ys))) ≡ cond (is_eq (cmp k x)) (Some (joined_to (at x (y ∷ ys)) x)) (at k (y ∷ ys))
    at_put_at k x y ys Less e r go =
        ap (λ (f : Option X). cond (is_eq (cmp k x)) (Some (joined_to f x)) (at k (y ∷ ys))) (sym (none_at x (y ∷ ys) (before_all cmp total x y ys r e)))
    at_put_at k x y ys Equal e r go =
        ap (λ (p : Ordering). cond (is_eq p) (Some (joined y x)) (at k ys)) (alike_behind cmp total joined alike x y k e ∙ sym (alike_to x y k e))
        ∙ twice (is_eq (cmp k x)) (Some (joined y x)) (Some y) (at k ys)
        ∙ ap (λ (p : Ordering). cond (is_eq (cmp k x)) (Some (joined y x)) (cond (is_eq p) (Some y) (at k ys))) (alike_to x y k e)
        ∙ ap (λ (f : Option X). cond (is_eq (cmp k x)) (Some (joined_to f x)) (at k (y ∷ ys))) (sym (ap (λ (p : Ordering). cond (is_eq p) (Some y) (at x ys)) e))
    at_put_at k x y ys Greater e r go =
        ap (λ (f : Option X). cond (is_eq (cmp k y)) (Some y) f) go
        ∙ swapped (is_eq (cmp k y)) (is_eq (cmp k x)) (Some y) (Some (joined_to (at x ys) x)) (at k ys) (λ f g. both_equal k x y g f e)
        ∙ ap (λ (f : Option X). cond (is_eq (cmp k x)) (Some (joined_to f x)) (at k (y ∷ ys))) (sym (ap (λ (p : Ordering). cond (is_eq p) (Some y) (at x ys)) e))

    pub at_put : (k x : X) (ys : List X) → Rising cmp ys → at k (put cmp joined x ys) ≡ cond (is_eq (cmp k x)) (Some (joined_to (at x ys) x)) (at k ys)
    at_put k x [] r = refl
    at_put k x (y ∷ ys) r = at_put_at k x y ys (cmp x y) refl r (at_put k x ys r.1)

    -- what stands behind all of a list's beginning is put behind it
    pub put_behind : (x : X) (front rest : List X) → ((y : X) → Among y front → cmp x y ≡ Greater) → put cmp joined x (front ++ rest) ≡ front ++ put cmp joined x rest
    put_behind x [] rest h = refl
    put_behind x (y ∷ ys) rest h =
        ap (λ (o : Ordering). cond (is_lt o) (x ∷ y ∷ (ys ++ rest)) (cond (is_eq o) (joined y x ∷ (ys ++ rest)) (y ∷ put cmp joined x (ys ++ rest)))) (h y (inl refl))
        ∙ ap (λ (l : List X). y ∷ l) (put_behind x ys rest (λ z later. h z (inr later)))

-- ---- memberships

pub raised_alike : (x y z : Membership) → membership_cmp x y ≡ Equal → membership_cmp (raised y x) z ≡ membership_cmp y z
raised_alike x y z e = refl

abbrev found : Membership → List Membership → Option Membership
found = at membership_cmp memberships_total

pub rises : (m : Membership) (ms : List Membership) → Rising membership_cmp ms → Rising membership_cmp (put membership_cmp raised m ms)
rises = put_rises membership_cmp memberships_total raised raised_alike

pub all_rise : (news ms : List Membership) → Rising membership_cmp ms → Rising membership_cmp (put_all news ms)
all_rise [] ms r = r
all_rise (m ∷ news) ms r = all_rise news (put membership_cmp raised m ms) (rises m ms r)

eq_then : (a b : Ordering) → is_eq (ordering_then a b) ≡ (is_eq a && is_eq b)
eq_then Less b = refl
eq_then Equal b = refl
eq_then Greater b = refl

pub key_is : (a b : Membership) → is_eq (membership_cmp a b) ≡ (bytes_eq a.role b.role && bytes_eq a.member b.member)
key_is a b =
    eq_then (name_cmp a.role b.role) (name_cmp a.member b.member)
    ∙ ap (λ (x : Bool). x && is_eq (name_cmp a.member b.member)) (is_eq-slice_cmp a.role b.role)
    ∙ ap (λ (x : Bool). bytes_eq a.role b.role && x) (is_eq-slice_cmp a.member b.member)

pub is_equal : (o : Ordering) → is_eq o ≡ true → o ≡ Equal
is_equal Equal e = refl
is_equal Less e = cc
is_equal Greater e = cc

pub is_greater : (o : Ordering) → is_gt o ≡ true → o ≡ Greater
is_greater Greater e = refl
is_greater Less e = cc
is_greater Equal e = cc

module _ (admin : Bool) where
  abbrev made_for : Membership → Membership
  made_for k = membership k.role admin k.member

  -- what is found of k after it is put
  abbrev given : Membership → Option Membership → Membership
  given k None = made_for k
  given k (Some y) = raised y (made_for k)

  or_twice : (a b : Bool) → ((a || b) || b) ≡ (a || b)
  or_twice true b = refl
  or_twice false true = refl
  or_twice false false = refl

  or_same : (b : Bool) → (b || b) ≡ b
  or_same true = refl
  or_same false = refl

  given_twice : (k : Membership) (o : Option Membership) → given k (Some (given k o)) ≡ given k o
  given_twice k None = ap (λ (b : Bool). membership k.role b k.member) (or_same admin)
  given_twice k (Some y) = ap (λ (b : Bool). record y { admin = b }) (or_twice y.admin admin)

  abbrev AllAre : List Membership → Type 0
  AllAre news = (m : Membership) → Among m news → m.admin ≡ admin

  is_made : (k m : Membership) → m.admin ≡ admin → is_eq (membership_cmp k m) ≡ true → m ≡ made_for k
  is_made k m is e =
      let parts = and_parts (bytes_eq k.role m.role) (bytes_eq k.member m.member) (sym (key_is k m) ∙ e) in
      let role : k.role ≡ m.role = bytes_same k.role m.role parts.0 in
      let member : k.member ≡ m.member = bytes_same k.member m.member parts.1 in
      ap (λ (r : TheName). membership r m.admin m.member) (sym role) ∙ ap (λ (s : TheName). membership k.role m.admin s) (sym member) ∙ ap (λ (b : Bool). membership k.role b k.member) is

  found_same : (k m : Membership) (ms : List Membership) → membership_cmp k m ≡ Equal → found m ms ≡ found k ms
  found_same k m [] e = refl
  found_same k m (y ∷ ys) e = ap (λ (o : Ordering). cond (is_eq o) (Some y) (found m ys)) (sym (memberships_total.congr k m y e)) ∙ ap (λ (f : Option Membership). cond (is_eq (membership_cmp k y)) (Some y) f) (found_same k m ys e)

  joined_given : (k : Membership) (o : Option Membership) → joined_to membership_cmp memberships_total raised raised_alike o (made_for k) ≡ given k o
  joined_given k None = refl
  joined_given k (Some y) = refl

  found_put_at : (k m : Membership) (ms : List Membership) (b : Bool) → is_eq (membership_cmp k m) ≡ b → m.admin ≡ admin →
      cond b (Some (joined_to membership_cmp memberships_total raised raised_alike (found m ms) m)) (found k ms) ≡ cond b (Some (given k (found k ms))) (found k ms)
  found_put_at k m ms false e is = refl
  found_put_at k m ms true e is =
      ap Some (
      ap (λ (f : Option Membership). joined_to membership_cmp memberships_total raised raised_alike f m) (found_same k m ms (is_equal (membership_cmp k m) e))
      ∙ ap (joined_to membership_cmp memberships_total raised raised_alike (found k ms)) (is_made k m is e)
      ∙ joined_given k (found k ms)
      )

  found_put : (k m : Membership) (ms : List Membership) → Rising membership_cmp ms → m.admin ≡ admin →
      found k (put membership_cmp raised m ms) ≡ cond (is_eq (membership_cmp k m)) (Some (given k (found k ms))) (found k ms)
  found_put k m ms r is = at_put membership_cmp memberships_total raised raised_alike k m ms r ∙ found_put_at k m ms (is_eq (membership_cmp k m)) refl is

  step : (a b : Bool) (k : Membership) (o : Option Membership) → cond a (Some (given k (cond b (Some (given k o)) o))) (cond b (Some (given k o)) o) ≡ cond (b || a) (Some (given k o)) o
  step true true k o = ap Some (given_twice k o)
  step true false k o = refl
  step false true k o = refl
  step false false k o = refl

  pub found_all_put : (k : Membership) (news ms : List Membership) → Rising membership_cmp ms → AllAre news →
      found k (put_all news ms) ≡ cond (list_any (λ m. is_eq (membership_cmp k m)) news) (Some (given k (found k ms))) (found k ms)
  found_all_put k [] ms r are = refl
  found_all_put k (m ∷ news) ms r are =
      found_all_put k news (put membership_cmp raised m ms) (rises m ms r) (λ x h. are x (inr h))
      ∙ ap (λ (f : Option Membership). cond (list_any (λ m. is_eq (membership_cmp k m)) news) (Some (given k f)) f) (found_put k m ms r (are m (inl refl)))
      ∙ step (list_any (λ m. is_eq (membership_cmp k m)) news) (is_eq (membership_cmp k m)) k (found k ms)

  -- ---- each role with each member

  any_row : (k : Membership) (role : TheName) (members : List TheName) → list_any (λ m. is_eq (membership_cmp k m)) (map (membership role admin) members) ≡ (bytes_eq k.role role && has_name k.member members)
  any_row k role [] = and_none (bytes_eq k.role role) where
    and_none : (a : Bool) → false ≡ (a && false)
    and_none true = refl
    and_none false = refl
  any_row k role (s ∷ ss) =
      ap (λ (b : Bool). b || list_any (λ m. is_eq (membership_cmp k m)) (map (membership role admin) ss)) (key_is k (membership role admin s))
      ∙ ap (λ (b : Bool). (bytes_eq k.role role && bytes_eq k.member s) || b) (any_row k role ss)
      ∙ spread (bytes_eq k.role role) (bytes_eq k.member s) (has_name k.member ss) where
        spread : (a b c : Bool) → ((a && b) || (a && c)) ≡ (a && (b || c))
        spread true b c = refl
        spread false b c = refl

  any_product : (k : Membership) (roles members : List TheName) → list_any (λ m. is_eq (membership_cmp k m)) (memberships_of roles members admin) ≡ (has_name k.role roles && has_name k.member members)
  any_product k [] members = refl
  any_product k (r ∷ rs) members =
      list_any-append (λ m. is_eq (membership_cmp k m)) (map (membership r admin) members) (memberships_of rs members admin)
      ∙ ap (λ (b : Bool). b || list_any (λ m. is_eq (membership_cmp k m)) (memberships_of rs members admin)) (any_row k r members)
      ∙ ap (λ (b : Bool). (bytes_eq k.role r && has_name k.member members) || b) (any_product k rs members)
      ∙ spread (bytes_eq k.role r) (has_name k.role rs) (has_name k.member members) where
        spread : (a b c : Bool) → ((a && c) || (b && c)) ≡ ((a || b) && c)
        spread true b true = refl
        spread true true false = refl
        spread true false false = refl
        spread false b c = refl

  pub same_product : (roles members roles' members' : List TheName) (ms : List Membership) → Rising membership_cmp ms
      → ((s : TheName) → has_name s roles ≡ has_name s roles') → ((s : TheName) → has_name s members ≡ has_name s members')
      → AllAre (memberships_of roles members admin) → AllAre (memberships_of roles' members' admin)
      → put_all (memberships_of roles members admin) ms ≡ put_all (memberships_of roles' members' admin) ms
  same_product roles members roles' members' ms r same_roles same_members are are' =
      only_one membership_cmp memberships_total _ _ (all_rise (memberships_of roles members admin) ms r) (all_rise (memberships_of roles' members' admin) ms r) (λ k.
      found_all_put k (memberships_of roles members admin) ms r are
      ∙ ap (λ (b : Bool). cond b (Some (given k (found k ms))) (found k ms)) (
      any_product k roles members
      ∙ ap (λ (b : Bool). b && has_name k.member members) (same_roles k.role)
      ∙ ap (λ (b : Bool). has_name k.role roles' && b) (same_members k.member)
      ∙ sym (any_product k roles' members')
      )
      ∙ sym (found_all_put k (memberships_of roles' members' admin) ms r are'))

-- ---- one walk over the list

pub drop_at : {X : Type 0} (xs : List X) (i : ℕ) (x : X) → slice_get xs i ≡ Some x → drop i xs ≡ x ∷ drop (i + 1) xs
drop_at {X = X} xs i x here =
    let lt = slice_get_within xs i x here in
    drop_more xs i x lt ∙ ap (λ (z : X). z ∷ drop (i + 1) xs) (same_Some (get_or xs i x) x (sym (slice_get-get_or xs i x lt) ∙ here))

pub slice_of_drop : {X : Type 0} (xs : List X) (i : ℕ) (x : X) (rest : List X) → drop i xs ≡ x ∷ rest → slice_get xs i ≡ Some x
slice_of_drop [] zero x rest e = cc
slice_of_drop [] (suc i) x rest e = cc
slice_of_drop (y ∷ ys) zero x rest e = cc
slice_of_drop (y ∷ ys) (suc i) x rest e = slice_of_drop ys i x rest e

pub put_all_append : (xs ys ms : List Membership) → put_all (xs ++ ys) ms ≡ put_all ys (put_all xs ms)
put_all_append [] ys ms = refl
put_all_append (x ∷ xs) ys ms = put_all_append xs ys (put membership_cmp raised x ms)

-- what is before another is before all that is after it
pub beyond : (k l y : Membership) → is_lt (membership_cmp k y) ≡ false → membership_cmp k l ≡ Less → membership_cmp l y ≡ Greater
beyond k l y e f = beyond_at (membership_cmp k y) refl e where
  over : membership_cmp y l ≡ Less → membership_cmp l y ≡ Greater
  over g = memberships_total.antisymm l y ∙ ap ordering_reverse g

  beyond_at : (o : Ordering) → membership_cmp k y ≡ o → is_lt o ≡ false → membership_cmp l y ≡ Greater
  beyond_at Less at h = cc
  beyond_at Equal at h = over (sym (memberships_total.congr k y l at) ∙ f)
  beyond_at Greater at h = over (memberships_total.trans y k l (memberships_total.antisymm y k ∙ ap ordering_reverse at) f)

-- the same of names
pub beyond_name : (k l y : TheName) → is_lt (name_cmp k y) ≡ false → name_cmp k l ≡ Less → name_cmp l y ≡ Greater
beyond_name k l y e f = beyond_at (name_cmp k y) refl e where
  over : name_cmp y l ≡ Less → name_cmp l y ≡ Greater
  over g = nat_list_cmp_total.antisymm l y ∙ ap ordering_reverse g

  beyond_at : (o : Ordering) → name_cmp k y ≡ o → is_lt o ≡ false → name_cmp l y ≡ Greater
  beyond_at Less at h = cc
  beyond_at Equal at h = over (sym (nat_list_cmp_total.congr k y l at) ∙ f)
  beyond_at Greater at h = over (nat_list_cmp_total.trans y k l (nat_list_cmp_total.antisymm y k ∙ ap ordering_reverse at) f)

pub same_name : (n : TheName) → name_cmp n n ≡ Equal
same_name n = is_equal (name_cmp n n) (is_eq-slice_cmp n n ∙ same_bytes n n refl)

pub same_membership : (m : Membership) → membership_cmp m m ≡ Equal
same_membership m = ap (λ (o : Ordering). ordering_then o (name_cmp m.member m.member)) (same_name m.role) ∙ same_name m.member

-- of one role the members decide
pub same_role : (role s t : TheName) (a b : Bool) → membership_cmp (membership role a s) (membership role b t) ≡ name_cmp s t
same_role role s t a b = ap (λ (o : Ordering). ordering_then o (name_cmp s t)) (same_name role)

pub of_earlier_role : (role s : TheName) (a : Bool) (y : Membership) → name_cmp role y.role ≡ Greater → membership_cmp (membership role a s) y ≡ Greater
of_earlier_role role s a y e = ap (λ (o : Ordering). ordering_then o (name_cmp s y.member)) e

pub role_up_to : (role s : TheName) (a : Bool) (y : Membership) → is_lt (membership_cmp (membership role a s) y) ≡ false → is_lt (name_cmp role y.role) ≡ false
role_up_to role s a y e = at (name_cmp role y.role) refl where
  at : (o : Ordering) → name_cmp role y.role ≡ o → is_lt o ≡ false
  at Equal f = refl
  at Greater f = refl
  at Less f = let contrary : true ≡ false = sym (ap (λ (o : Ordering). is_lt (ordering_then o (name_cmp s y.member))) f) ∙ e in cc

module _ (ms front : List Membership) (i : ℕ) (role member : TheName) (admin : Bool) (before : AreBefore front (membership role admin member)) where
  behind_front : put membership_cmp raised (membership role admin member) (front ++ drop i ms) ≡ front ++ put membership_cmp raised (membership role admin member) (drop i ms)
  behind_front = put_behind membership_cmp memberships_total raised raised_alike (membership role admin member) front (drop i ms) before

  pub put_equal : (m : Membership) → slice_get ms i ≡ Some m → membership_cmp (membership role admin member) m ≡ Equal →
      (front ++ membership role (m.admin || admin) member ∷ []) ++ drop (i + 1) ms ≡ put membership_cmp raised (membership role admin member) (front ++ drop i ms)
  put_equal m at e =
      let parts = and_parts (bytes_eq role m.role) (bytes_eq member m.member) (sym (key_is (membership role admin member) m) ∙ ap is_eq e) in
      let is : membership role (m.admin || admin) member ≡ raised m (membership role admin member) =
      ap (λ (r : TheName). membership r (m.admin || admin) member) (bytes_same role m.role parts.0) ∙ ap (λ (s : TheName). membership m.role (m.admin || admin) s) (bytes_same member m.member parts.1) in
      append_assoc front (membership role (m.admin || admin) member ∷ []) (drop (i + 1) ms)
      ∙ ap (λ (x : Membership). front ++ x ∷ drop (i + 1) ms) is
      ∙ ap (λ (o : Ordering). front ++ cond (is_lt o) (membership role admin member ∷ m ∷ drop (i + 1) ms) (cond (is_eq o) (raised m (membership role admin member) ∷ drop (i + 1) ms) (m ∷ put membership_cmp raised (membership role admin member) (drop (i + 1) ms)))) (sym e)
      ∙ ap (λ (l : List Membership). front ++ put membership_cmp raised (membership role admin member) l) (sym (drop_at ms i m at))
      ∙ sym behind_front

  pub put_new : ((m : Membership) → slice_get ms i ≡ Some m → (is_gt (membership_cmp (membership role admin member) m) ≡ false) × (is_eq (membership_cmp (membership role admin member) m) ≡ false)) →
      (front ++ membership role admin member ∷ []) ++ drop i ms ≡ put membership_cmp raised (membership role admin member) (front ++ drop i ms)
  put_new h =
      append_assoc front (membership role admin member ∷ []) (drop i ms)
      ∙ ap (λ (l : List Membership). front ++ l) (first (drop i ms) (λ m rest e. h m (slice_of_drop ms i m rest e)))
      ∙ sym behind_front where
        only_less : (o : Ordering) → is_gt o ≡ false → is_eq o ≡ false → o ≡ Less
        only_less Less e f = refl
        only_less Equal e f = cc
        only_less Greater e f = cc

        first : (l : List Membership) → ((m : Membership) (rest : List Membership) → l ≡ m ∷ rest → (is_gt (membership_cmp (membership role admin member) m) ≡ false) × (is_eq (membership_cmp (membership role admin member) m) ≡ false)) →
            membership role admin member ∷ l ≡ put membership_cmp raised (membership role admin member) l
        first [] g = refl
        first (m ∷ rest) g =
            let both = g m rest refl in
            sym (ap (λ (o : Ordering). cond (is_lt o) (membership role admin member ∷ m ∷ rest) (cond (is_eq o) (raised m (membership role admin member) ∷ rest) (m ∷ put membership_cmp raised (membership role admin member) rest))) (only_less (membership_cmp (membership role admin member) m) both.0 both.1))

  pub up_to_pushed : (a : Bool) → AreUpTo (front ++ membership role a member ∷ []) (membership role admin member)
  up_to_pushed a y h = elim (of_append front (membership role a member ∷ []) y h) [
    | inl old ↦ ap is_lt (before y old)
    | inr last ↦ elim last [
      | inl is ↦ ap (λ (z : Membership). is_lt (membership_cmp (membership role admin member) z)) (sym is) ∙ ap is_lt (same_membership (membership role admin member))
      | inr none ↦ absurd none
    ]
  ]
