-- Sort keys in whose order the rows of a table stand already.
use Rattle.std.proofs.Common.{◌≡◌, ℕ, zero, suc, arith, Bool, true, false, not, if◌then◌else◌, nat_eq, List, [], ◌∷◌, map, take, Option, Some, None, Result, Ok, Err, refl, sym, ap, ◌∙◌, subst, ◌⊎◌, inl, inr}
use Rattle.std.proofs.lemmas.Bool.Decides.{nat_tests}
use Rattle.std.specs.Ordering.{ordering_then, is_gt}
use Rattle.std.specs.declared.cmp.Ordering.{Ordering}
use Rattle.std.specs.declared.cmp.Ordering.TheVariants.{Less, Equal, Greater}
use Rattle.sql_types.specs.Row.{value_at}
use Rattle.sql_types.specs.Value.{order_of}
use Rattle.sql_types.specs.declared.state.SqlState.{SqlState}
use Rattle.sql_types.specs.declared.value.Value.{Value}
use Rattle.sql_types.specs.declared.value.Value.TheVariants.{Null, Int, Text, Bool as Boolean}
use Rattle.sql_ast.specs.declared.scope.ColumnIndex.{ColumnIndex}
use Rattle.sql_ast.specs.Term.{Term, literal, column, current_user, session_user, comparison, operation, minus, conjunction, disjunction, negation, null_test, not_null_test, member_test}
use Rattle.expressions.specs.Meaning.{UserNames}
use Rattle.expressions.specs.Outcome.{Outcome}
use Rattle.expressions.specs.Stages.{◌>>=◌, each}
use Rattle.expressions.proofs.Results.{bind_ok, ok_inside}
use Rattle.abstract_database.specs.Expressions.{bound_value, passing, row_at, when_true}
use Rattle.abstract_database.specs.Lists.{Among, Rising}
use Rattle.abstract_database.specs.Queries.{BoundList, each_column, each_value, their_count, Combination, Keyed, all_columns, condition_value, cut, keys_cmp, listed, ordered, put_before, sorted, with_keys}
use Rattle.gathering.specs.declared.query.TypedSortKey.{TypedSortKey}
use Rattle.gathering.specs.Joins.{column_in}
use Rattle.gathering.specs.KeyOrder.{is_own_column, is_ascending_by, are_first_of, first_row_cmp, KeyOrderIsSorted, NeverFalls, Pairwise}
use Rattle.gathering.specs.Queries.{key_of, list_of, terms}
use Rattle.std.proofs.lemmas.Bool.{and_parts as both_true}

-- ---- the rows that pass stay in their order

pub pairs_passed : {A : Type 0} (R : A → A → Type 0) (p : A → Outcome) (xs ys : List A) → Pairwise R xs → passing p xs ≡ Ok ys → Pairwise R ys × ((y : A) → Among y ys → Among y xs)
pairs_passed {A} R p [] ys pairs e = subst (λ (l : List A). Pairwise R l × ((y : A) → Among y l → Among y [])) (ok_inside [] ys e) (tt, λ y among. among)
pairs_passed {A} R p (x ∷ xs) ys pairs e =
    let first = bind_ok (p x) _ ys e in
    let more = bind_ok (passing p xs) _ ys first.2 in
    let later = pairs_passed R p xs more.0 pairs.1 more.1 in
    subst (λ (l : List A). Pairwise R l × ((y : A) → Among y l → Among y (x ∷ xs))) (ok_inside (when_true first.0 (x ∷ more.0) more.0) ys more.2) (kept more.0 later.0 later.1 first.0)
  where
    put_first : (zs : List A) → ((y : A) → Among y zs → Among y xs) → (y : A) → (x ≡ y) ⊎ Among y zs → (x ≡ y) ⊎ Among y xs
    put_first zs among y (inl is) = inl is
    put_first zs among y (inr a) = inr (among y a)

    kept : (zs : List A) → Pairwise R zs → ((y : A) → Among y zs → Among y xs) → (v : Value) → Pairwise R (when_true v (x ∷ zs) zs) × ((y : A) → Among y (when_true v (x ∷ zs) zs) → Among y (x ∷ xs))
    kept zs rest among (Boolean true) = (((λ y a. pairs.0 y (among y a)), rest), λ y a. put_first zs among y a)
    kept zs rest among (Boolean false) = (rest, λ y a. inr (among y a))
    kept zs rest among Null = (rest, λ y a. inr (among y a))
    kept zs rest among (Int n) = (rest, λ y a. inr (among y a))
    kept zs rest among (Text t) = (rest, λ y a. inr (among y a))

-- a list that rises never falls
pub rising_never_falls : {A : Type 0} (cmp : A → A → Ordering) (xs : List A) → Rising cmp xs → NeverFalls cmp xs
rising_never_falls cmp [] rising = tt
rising_never_falls cmp (x ∷ xs) rising = ((λ y among. ap is_gt (rising.0 y among)), rising_never_falls cmp xs rising.1)

-- ---- the values of sort keys that are columns

same_number : (a b : ℕ) → nat_eq a b ≡ true → a ≡ b
same_number a b e = grind (arith, nat_tests)

column_value : (users : UserNames) (c : Combination) (index : ℕ) (t : Term ColumnIndex) → is_own_column index (column_in t) ≡ true → bound_value users c t ≡ Ok (value_at (row_at c 0) index)
column_value users c index (column x) e =
    let parts = both_true (nat_eq x.table 0) (nat_eq x.column index) e in
    ap (λ (n : ℕ). let o : Outcome = Ok (value_at (row_at c n) x.column) in o) (same_number x.table 0 parts.0)
    ∙ ap (λ (n : ℕ). let o : Outcome = Ok (value_at (row_at c 0) n) in o) (same_number x.column index parts.1)
column_value users c index (literal v) e = cc
column_value users c index current_user e = cc
column_value users c index session_user e = cc
column_value users c index (comparison op a b) e = cc
column_value users c index (operation op a b) e = cc
column_value users c index (minus a) e = cc
column_value users c index (conjunction a b) e = cc
column_value users c index (disjunction a b) e = cc
column_value users c index (negation a) e = cc
column_value users c index (null_test a) e = cc
column_value users c index (not_null_test a) e = cc
column_value users c index (member_test a) e = cc

abbrev values_of : List ℕ → List TypedSortKey → Combination → List Value
values_of columns [] c = []
values_of [] (key ∷ keys) c = []
values_of (index ∷ columns) (key ∷ keys) c = value_at (row_at c 0) index ∷ values_of columns keys c

each_key : (users : UserNames) (c : Combination) (columns : List ℕ) (keys : List TypedSortKey) → are_first_of columns keys ≡ true
    → each (λ key. bound_value users c key.term) (map key_of keys) ≡ Ok (values_of columns keys c)
each_key users c columns [] e = refl
each_key users c [] (key ∷ keys) e = cc
each_key users c (index ∷ columns) (key ∷ keys) e =
    let parts = both_true (is_ascending_by index key) (are_first_of columns keys) e in
    let own = both_true (not key.descending) (is_own_column index (column_in key.value.term)) parts.0 in
    ap (λ (r : Outcome). r >>= λ v. each (λ key. bound_value users c key.term) (map key_of keys) >>= λ vs. Ok (v ∷ vs)) (column_value users c index key.value.term own.1)
    ∙ ap (λ (r : Result (List Value) SqlState). r >>= λ vs. Ok (value_at (row_at c 0) index ∷ vs)) (each_key users c columns keys parts.1)

-- a combination that is not behind another by the columns is not so by the keys
not_behind : (columns : List ℕ) (keys : List TypedSortKey) (c d : Combination) → are_first_of columns keys ≡ true → is_gt (first_row_cmp columns c d) ≡ false
    → is_gt (keys_cmp (map key_of keys) (values_of columns keys c) (values_of columns keys d)) ≡ false
not_behind columns [] c d e before = refl
not_behind [] (key ∷ keys) c d e before = cc
not_behind (index ∷ columns) (key ∷ keys) c d e before =
    let parts = both_true (is_ascending_by index key) (are_first_of columns keys) e in
    let own = both_true (not key.descending) (is_own_column index (column_in key.value.term)) parts.0 in
    go key.descending own.0 (order_of (value_at (row_at c 0) index) (value_at (row_at d 0) index)) before (λ b. not_behind columns keys c d parts.1 b)
  where
    go : (descending : Bool) → not descending ≡ true → (o : Ordering) → is_gt (ordering_then o (first_row_cmp columns c d)) ≡ false
        → (is_gt (first_row_cmp columns c d) ≡ false → is_gt (keys_cmp (map key_of keys) (values_of columns keys c) (values_of columns keys d)) ≡ false)
        → is_gt (ordering_then (if descending then order_of (value_at (row_at d 0) index) (value_at (row_at c 0) index) else o) (keys_cmp (map key_of keys) (values_of columns keys c) (values_of columns keys d))) ≡ false
    go true n o b later = cc
    go false n Less b later = refl
    go false n Equal b later = later b
    go false n Greater b later = cc

-- ---- a list in its order is sorted

sorted_stays : {A : Type 0} (cmp : A → A → Ordering) (xs : List A) → NeverFalls cmp xs → sorted cmp xs ≡ xs
sorted_stays cmp [] h = refl
sorted_stays cmp (x ∷ []) h = refl
sorted_stays {A} cmp (x ∷ y ∷ ys) h =
    ap (λ (l : List A). put_before cmp x l) (sorted_stays cmp (y ∷ ys) h.1)
    ∙ ap (λ (b : Bool). if b then y ∷ put_before cmp x ys else x ∷ y ∷ ys) (h.0 y (inl refl))

module _ (users : UserNames) (columns : List ℕ) (keys : List TypedSortKey) (first : are_first_of columns keys ≡ true) where
  abbrev keyed : Combination → Keyed
  keyed c = record { keys = values_of columns keys c; combination = c }

  all_keyed : (cs : List Combination) → each (with_keys users (map key_of keys)) cs ≡ Ok (map keyed cs)
  all_keyed [] = refl
  all_keyed (c ∷ cs) =
      ap (λ (r : Result (List Value) SqlState). (r >>= λ values. Ok (record { keys = values; combination = c })) >>= λ k. each (with_keys users (map key_of keys)) cs >>= λ ks. Ok (k ∷ ks)) (each_key users c columns keys first)
      ∙ ap (λ (r : Result (List Keyed) SqlState). r >>= λ ks. Ok (keyed c ∷ ks)) (all_keyed cs)

  in_place : (cs : List Combination) → NeverFalls (first_row_cmp columns) cs → NeverFalls (λ a b. keys_cmp (map key_of keys) a.keys b.keys) (map keyed cs)
  in_place [] never = tt
  in_place (c ∷ cs) never = (before cs never.0, in_place cs never.1)
    where
      before : (ds : List Combination) → ((d : Combination) → Among d ds → is_gt (first_row_cmp columns c d) ≡ false) → (k : Keyed) → Among k (map keyed ds) → is_gt (keys_cmp (map key_of keys) (keyed c).keys k.keys) ≡ false
      before [] all k among = absurd among
      before (d ∷ ds) all k (inl is) = subst (λ (k : Keyed). is_gt (keys_cmp (map key_of keys) (keyed c).keys k.keys) ≡ false) is (not_behind columns keys c d first (all d (inl refl)))
      before (d ∷ ds) all k (inr later) = before ds (λ e a. all e (inr a)) k later

  taken : (n : ℕ) (cs : List Combination) → map (λ (k : Keyed). k.combination) (take n (map keyed cs)) ≡ take n cs
  taken zero cs = refl
  taken (suc n) [] = refl
  taken (suc n) (c ∷ cs) = ap (λ (l : List Combination). c ∷ l) (taken n cs)

  all_there : (cs : List Combination) → map (λ (k : Keyed). k.combination) (map keyed cs) ≡ cs
  all_there [] = refl
  all_there (c ∷ cs) = ap (λ (l : List Combination). c ∷ l) (all_there cs)

  uncut : (limit : Option ℕ) (cs : List Combination) → map (λ (k : Keyed). k.combination) (cut limit (map keyed cs)) ≡ cut limit cs
  uncut None cs = all_there cs
  uncut (Some n) cs = taken n cs

  ordered_stays : (limit : Option ℕ) (cs : List Combination) → NeverFalls (first_row_cmp columns) cs → ordered users (map key_of keys) limit cs ≡ Ok (cut limit cs)
  ordered_stays limit cs never =
      ap (λ (r : Result (List Keyed) SqlState). r >>= λ ks. Ok (map (λ (k : Keyed). k.combination) (cut limit (sorted (λ a b. keys_cmp (map key_of keys) a.keys b.keys) ks)))) (all_keyed cs)
      ∙ ap (λ (l : List Keyed). let r : Result (List Combination) SqlState = Ok (map (λ (k : Keyed). k.combination) (cut limit l)) in r)
      (sorted_stays (λ a b. keys_cmp (map key_of keys) a.keys b.keys) (map keyed cs) (in_place cs never))
      ∙ ap (λ (l : List Combination). let r : Result (List Combination) SqlState = Ok l in r) (uncut limit cs)

-- ---- the query

listed_alike : (users : UserNames) (columns : List ℕ) (keys : List TypedSortKey) → are_first_of columns keys ≡ true → (list : BoundList) (limit : Option ℕ) (cs : List Combination) → NeverFalls (first_row_cmp columns) cs
    → listed users list (map key_of keys) limit cs ≡ listed users list [] limit cs
listed_alike users columns keys first their_count limit cs never = refl
listed_alike users columns keys first each_column limit cs never =
    ap (λ (r : Result (List Combination) SqlState). r >>= λ rows. Ok (map all_columns rows)) (ordered_stays users columns keys first limit cs never ∙ sym (ordered_stays users columns [] refl limit cs never))
listed_alike users columns keys first (each_value values) limit cs never =
    ap (λ (r : Result (List Combination) SqlState). r >>= λ rows. each (λ row. each (bound_value users row) values) rows)
    (ordered_stays users columns keys first limit cs never ∙ sym (ordered_stays users columns [] refl limit cs never))

pub key_order_is_sorted : KeyOrderIsSorted
key_order_is_sorted columns users q combinations first never = go (passing (condition_value users (terms q.conditions)) combinations) refl
  where
    go : (r : Result (List Combination) SqlState) → passing (condition_value users (terms q.conditions)) combinations ≡ r
        → (r >>= listed users (list_of q.list) (map key_of q.keys) q.limit) ≡ (r >>= listed users (list_of q.list) [] q.limit)
    go (Err code) is = refl
    go (Ok chosen) is = listed_alike users columns q.keys first (list_of q.list) q.limit chosen (pairs_passed _ (condition_value users (terms q.conditions)) combinations chosen never is).0
