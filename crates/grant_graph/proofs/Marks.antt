-- Marks of descriptors, and what becomes of a list by them.
use Rattle.std.proofs.Common.{◌≡◌, ◌<◌, ◌≤◌, ◌+◌, ◌++◌, ◌&&◌, ◌||◌, ℕ, Bool, true, false, cond, List, [], ◌∷◌, Option, Some, None, bytes_eq, nat_eq, take, refl, sym, ap, ◌∙◌, inl, inr, arith, Ordering, Less, Equal, Greater, is_eq, nat_cmp}
use Rattle.std.specs.List.{list_any}
use Rattle.std.specs.Ordering.{ordering_then}
use Rattle.std.specs.Option.{option_cmp, option_eq}
use Rattle.std.specs.Cmp.{nat_cmp_is, Equal-is}
use Rattle.std.proofs.lemmas.Map.Lookups.{exact_unsigned}
use Rattle.std.proofs.lemmas.Bool.{and_parts, eq-eqb, eqb-true}
use Rattle.std.proofs.lemmas.List.Folds.{list_any-append}
use Rattle.std.proofs.lemmas.Cmp.{nat_list_eq_equiv}
use Rattle.std.proofs.lemmas.Map.Text.{is_eq-slice_cmp}
use Rattle.indexmap.specs.IndexSet.{insert_key}
use Rattle.role_membership.proofs.Names.{same_tests}
use Rattle.sql_ast.specs.declared.privilege.Descriptor.{Descriptor}
use Rattle.abstract_database.specs.Lists.{TheName, name_cmp}
use Rattle.abstract_database.specs.Database.{action_number, grantor_name, grantee_name}
use Rattle.abstract_database.specs.Privileges.{covers, same_key, is_named_in, takes, is_taken_by}
use Rattle.abstract_database.proofs.ListLemmas.{bytes_same}
use Rattle.abstract_database.proofs.ElementLemmas.{any_found, any_holds}
use Rattle.grant_graph.specs.Keys.{Key, LentKey, lent_key, key_of}
use Rattle.grant_graph.specs.Marking.{same_key_as, HaveKeysOf}

-- ---- keys

abbrev pub same_lent_key : LentKey → LentKey → Bool
same_lent_key a b = same_key_as (lent_key a) (lent_key b)

pub same_column_is : (a b : Option ℕ) → option_eq nat_eq a b ≡ true → a ≡ b
same_column_is None None e = refl
same_column_is None (Some j) e = cc
same_column_is (Some i) None e = cc
same_column_is (Some i) (Some j) e = ap Some (eqb-true i j e)

same_key_is : (a b : Key) → same_key_as a b ≡ true → a ≡ b
same_key_is a b e =
    let four = and_parts (bytes_eq a.0 b.0 && nat_eq a.1 b.1 && option_eq nat_eq a.2 b.2 && bytes_eq a.3 b.3) (bytes_eq a.4 b.4) e in
    let three = and_parts (bytes_eq a.0 b.0 && nat_eq a.1 b.1 && option_eq nat_eq a.2 b.2) (bytes_eq a.3 b.3) four.0 in
    let two = and_parts (bytes_eq a.0 b.0 && nat_eq a.1 b.1) (option_eq nat_eq a.2 b.2) three.0 in
    let one = and_parts (bytes_eq a.0 b.0) (nat_eq a.1 b.1) two.0 in
    let first : ◌≡◌ {A = Key} a (b.0, a.1, a.2, a.3, a.4) = ap (λ (x : TheName). (x, a.1, a.2, a.3, a.4)) (bytes_same a.0 b.0 one.0) in
    let second : ◌≡◌ {A = Key} (b.0, a.1, a.2, a.3, a.4) (b.0, b.1, a.2, a.3, a.4) = ap (λ (x : ℕ). (b.0, x, a.2, a.3, a.4)) (eqb-true a.1 b.1 one.1) in
    let third : ◌≡◌ {A = Key} (b.0, b.1, a.2, a.3, a.4) (b.0, b.1, b.2, a.3, a.4) = ap (λ (x : Option ℕ). (b.0, b.1, x, a.3, a.4)) (same_column_is a.2 b.2 two.1) in
    let fourth : ◌≡◌ {A = Key} (b.0, b.1, b.2, a.3, a.4) (b.0, b.1, b.2, b.3, a.4) = ap (λ (x : TheName). (b.0, b.1, b.2, x, a.4)) (bytes_same a.3 b.3 three.1) in
    let fifth : ◌≡◌ {A = Key} (b.0, b.1, b.2, b.3, a.4) b = ap (λ (x : TheName). (b.0, b.1, b.2, b.3, x)) (bytes_same a.4 b.4 four.1) in
    first ∙ second ∙ third ∙ fourth ∙ fifth

absorbed : (a b : Bool) → (b ≡ true → a ≡ true) → a ≡ (a || (b || false))
absorbed true b h = refl
absorbed false true h = h refl
absorbed false false h = refl

module _ (keys : List LentKey) (k : LentKey) (key : Key) where
  abbrev is_it : LentKey → Bool
  is_it x = same_key_as key (lent_key x)

  inserted_at : (b : Bool) → list_any (same_lent_key k) keys ≡ b → list_any is_it (cond b keys (keys ++ k ∷ [])) ≡ (list_any is_it keys || (is_it k || false))
  inserted_at false e = list_any-append is_it keys (k ∷ [])
  inserted_at true e = absorbed (list_any is_it keys) (is_it k) (λ it.
      let found = any_found (same_lent_key k) keys e in
      let same : lent_key k ≡ lent_key found.0 = same_key_is (lent_key k) (lent_key found.0) found.2 in
      any_holds is_it keys found.0 found.1 (ap (same_key_as key) (sym same) ∙ it))

pub keys_more : (done : List Descriptor) (d : Descriptor) (keys : List LentKey) (k : LentKey) → lent_key k ≡ key_of d → HaveKeysOf done keys → HaveKeysOf (done ++ d ∷ []) (insert_key same_lent_key keys k)
keys_more done d keys k is have key =
    inserted_at keys k key (list_any (same_lent_key k) keys) refl
    ∙ ap (λ (b : Bool). b || (same_key_as key (lent_key k) || false)) (have key)
    ∙ ap (λ (x : Key). list_any (λ e. same_key_as key (key_of e)) done || (same_key_as key x || false)) is
    ∙ sym (list_any-append (λ e. same_key_as key (key_of e)) done (d ∷ []))

-- ---- the order tells keys apart

both_equal : (o p : Ordering) → is_eq (ordering_then o p) ≡ (is_eq o && is_eq p)
both_equal Less p = refl
both_equal Equal p = refl
both_equal Greater p = refl

joined_left : (t a c g e : Bool) → (t && (a && (c && (g && e)))) ≡ ((((t && a) && c) && g) && e)
joined_left true true true g e = refl
joined_left true true false g e = refl
joined_left true false c g e = refl
joined_left false a c g e = refl

same_names : (a b : TheName) → is_eq (name_cmp a b) ≡ bytes_eq b a
same_names a b = is_eq-slice_cmp a b ∙ nat_list_eq_equiv.symm a b

pub same_numbers : (i j : ℕ) → is_eq (nat_cmp i j) ≡ nat_eq j i
same_numbers i j = same_tests (is_eq (nat_cmp i j)) (nat_eq j i)
    (λ e. eq-eqb j i (sym (exact_unsigned i j ((Equal-is (nat_cmp i j)).0 e))))
    (λ e. ap is_eq (sym (nat_cmp_is i j Equal (sym (eqb-true j i e)))))

same_columns : (a b : Option ℕ) → is_eq (option_cmp nat_cmp a b) ≡ option_eq nat_eq b a
same_columns None None = refl
same_columns None (Some j) = refl
same_columns (Some i) None = refl
same_columns (Some i) (Some j) = same_numbers i j

same_by_key : (n d : Descriptor) → same_key n d ≡ same_key_as (key_of d) (key_of n)
same_by_key n d =
    let t = name_cmp n.table d.table in
    let a = nat_cmp (action_number n.action) (action_number d.action) in
    let g = name_cmp (grantor_name n.grantor) (grantor_name d.grantor) in
    let e = name_cmp (grantee_name n.grantee) (grantee_name d.grantee) in
    let c = option_cmp nat_cmp n.column d.column in
    let parts : is_eq (ordering_then t (ordering_then a (ordering_then c (ordering_then g e)))) ≡ (is_eq t && (is_eq a && (is_eq c && (is_eq g && is_eq e)))) =
    both_equal t (ordering_then a (ordering_then c (ordering_then g e)))
    ∙ ap (λ (b : Bool). is_eq t && b) (both_equal a (ordering_then c (ordering_then g e))
    ∙ ap (λ (b : Bool). is_eq a && b) (both_equal c (ordering_then g e) ∙ ap (λ (b : Bool). is_eq c && b) (both_equal g e))) in
    parts ∙ rw (same_names n.table d.table, same_numbers (action_number n.action) (action_number d.action), same_columns n.column d.column, same_names (grantor_name n.grantor) (grantor_name d.grantor), same_names (grantee_name n.grantee) (grantee_name d.grantee))
    (joined_left (bytes_eq d.table n.table) (nat_eq (action_number d.action) (action_number n.action)) (option_eq nat_eq d.column n.column) (bytes_eq (grantor_name d.grantor) (grantor_name n.grantor)) (bytes_eq (grantee_name d.grantee) (grantee_name n.grantee)))

any_same : {X : Type 0} (f g : X → Bool) (xs : List X) → ((x : X) → f x ≡ g x) → list_any f xs ≡ list_any g xs
any_same f g [] h = refl
any_same f g (x ∷ xs) h = ap (λ (b : Bool). b || list_any f xs) (h x) ∙ ap (λ (b : Bool). g x || b) (any_same f g xs h)

-- the keys of the named find them
pub named_by_key : (named : List Descriptor) (d : Descriptor) (keys : List LentKey) (k : LentKey) → lent_key k ≡ key_of d → HaveKeysOf named keys → list_any (same_lent_key k) keys ≡ is_named_in named d
named_by_key named d keys k is have =
    have (lent_key k)
    ∙ ap (λ (key : Key). list_any (λ n. same_key_as key (key_of n)) named) is
    ∙ any_same (λ n. same_key_as (key_of d) (key_of n)) (λ n. same_key n d) named (λ n. sym (same_by_key n d))

-- ---- the keys of the named find what they take

same_column_itself : (c : Option ℕ) → option_eq nat_eq c c ≡ true
same_column_itself None = refl
same_column_itself (Some i) = eq-eqb i i refl

or_false : (b : Bool) → b ≡ (b || false)
or_false true = refl
or_false false = refl

pub turned_numbers : (i j : ℕ) → nat_eq i j ≡ nat_eq j i
turned_numbers i j = same_tests (nat_eq i j) (nat_eq j i) (λ e. eq-eqb j i (sym (eqb-true i j e))) (λ e. eq-eqb i j (sym (eqb-true j i e)))

covers_is : (granted column : Option ℕ) → covers granted column ≡ (option_eq nat_eq column granted || option_eq nat_eq None granted)
covers_is None None = refl
covers_is None (Some j) = refl
covers_is (Some i) None = refl
covers_is (Some i) (Some j) = turned_numbers i j ∙ or_false (nat_eq j i)

in_two : (t a g e x y : Bool) → (((((t && a) && true) && g) && e) && (x || y)) ≡ (((((t && a) && x) && g) && e) || ((((t && a) && y) && g) && e))
in_two false a g e x y = refl
in_two true false g e x y = refl
in_two true true true true true true = refl
in_two true true true false true true = refl
in_two true true true true true false = refl
in_two true true true false true false = refl
in_two true true true true false true = refl
in_two true true true false false true = refl
in_two true true true true false false = refl
in_two true true true false false false = refl
in_two true true false e true true = refl
in_two true true false e true false = refl
in_two true true false e false true = refl
in_two true true false e false false = refl

takes_is : (n d : Descriptor) → takes n d ≡ (same_key n d || same_key n (record d { column = None }))
takes_is n d =
    let t = bytes_eq d.table n.table in
    let a = nat_eq (action_number d.action) (action_number n.action) in
    let g = bytes_eq (grantor_name d.grantor) (grantor_name n.grantor) in
    let e = bytes_eq (grantee_name d.grantee) (grantee_name n.grantee) in
    ap (λ (b : Bool). b && covers n.column d.column) (same_by_key (record n { column = d.column }) d)
    ∙ ap (λ (b : Bool). ((((t && a) && b) && g) && e) && covers n.column d.column) (same_column_itself d.column)
    ∙ ap (λ (b : Bool). ((((t && a) && true) && g) && e) && b) (covers_is n.column d.column)
    ∙ in_two t a g e (option_eq nat_eq d.column n.column) (option_eq nat_eq None n.column)
    ∙ ap (λ (b : Bool). b || ((((t && a) && option_eq nat_eq None n.column) && g) && e)) (sym (same_by_key n d))
    ∙ ap (λ (b : Bool). same_key n d || b) (sym (same_by_key n (record d { column = None })))

shuffled : (a b c d : Bool) → ((a || b) || (c || d)) ≡ ((a || c) || (b || d))
shuffled true b c d = refl
shuffled false true true d = refl
shuffled false true false d = refl
shuffled false false true d = refl
shuffled false false false d = refl

pub any_or : {X : Type 0} (p q : X → Bool) (xs : List X) → list_any (λ x. p x || q x) xs ≡ (list_any p xs || list_any q xs)
any_or p q [] = refl
any_or p q (x ∷ xs) = ap (λ b. (p x || q x) || b) (any_or p q xs) ∙ shuffled (p x) (q x) (list_any p xs) (list_any q xs)

-- what is taken is named, or the same on the whole table is
pub taken_is : (named : List Descriptor) (d : Descriptor) → is_taken_by named d ≡ (is_named_in named d || is_named_in named (record d { column = None }))
taken_is named d =
    any_same (λ n. takes n d) (λ n. same_key n d || same_key n (record d { column = None })) named (λ n. takes_is n d)
    ∙ any_or (λ n. same_key n d) (λ n. same_key n (record d { column = None })) named

-- the keys of the named find what they take: by its own key, or by that of the same on the whole table
pub taken_by_key : (named : List Descriptor) (d : Descriptor) (keys : List LentKey) (own whole : LentKey) → lent_key own ≡ key_of d → lent_key whole ≡ key_of (record d { column = None }) → HaveKeysOf named keys
    → (list_any (same_lent_key own) keys || list_any (same_lent_key whole) keys) ≡ is_taken_by named d
taken_by_key named d keys own whole is is_whole have =
    ap (λ (b : Bool). b || list_any (same_lent_key whole) keys) (named_by_key named d keys own is have)
    ∙ ap (λ (b : Bool). is_named_in named d || b) (named_by_key named (record d { column = None }) keys whole is_whole have)
    ∙ sym (taken_is named d)
