-- What a SELECT shows, by the names in its text.
use Rattle.std.proofs.Common.{◌≡◌, ◌&&◌, ℕ, zero, suc, Bool, true, false, cond, List, [], ◌∷◌, map, take, filter, pos, Option, Some, None, Ok, Err, refl, sym, ap, ◌∙◌, inl, inr, Ordering, is_gt}
use Rattle.std.specs.List.{list_all}
use Rattle.std.specs.Ordering.{ordering_then}
use Rattle.std.proofs.Math.Path.{fun_ext}
use Rattle.std.proofs.lemmas.List.Sorted.{length_permutation}
use Rattle.sql_types.specs.Row.{Row}
use Rattle.sql_types.specs.Value.{order_of}
use Rattle.sql_types.specs.declared.state.SqlState.{SqlState}
use Rattle.sql_types.specs.declared.value.Value.{Value}
use Rattle.sql_types.specs.declared.value.Value.TheVariants.{Null, Int, Text, Bool as Boolean}
use Rattle.sql_types.specs.declared.answer.Answer.TheVariants as answer
use Rattle.sql_ast.specs.declared.scope.ColumnIndex.{ColumnIndex}
use Rattle.sql_ast.specs.declared.statement.Select.{Select}
use Rattle.sql_ast.specs.declared.statement.SelectList.{SelectList}
use Rattle.sql_ast.specs.declared.statement.SelectList.TheVariants as list
use Rattle.sql_ast.specs.declared.statement.SortKey.{SortKey}
use Rattle.sql_ast.specs.Scope.{Table as ScopeTable}
use Rattle.sql_ast.specs.Term.{Term}
use Rattle.expressions.specs.Operators.{bigint}
use Rattle.expressions.specs.Outcome.{Outcome, with_value}
use Rattle.expressions.specs.Meaning.{UserNames, and_then}
use Rattle.expressions.specs.Names.{resolved}
use Rattle.expressions.specs.Parts.{check_expressions}
use Rattle.expressions.specs.Stages.{◌>>=◌, each}
use Rattle.expressions.proofs.Meanings.{resolved_means}
use Rattle.abstract_database.specs.Lists.{Among}
use Rattle.abstract_database.specs.Database.{TableOf, Database}
use Rattle.abstract_database.specs.Expressions.{cell_in, bound_value, value_on, all_of, passing}
use Rattle.abstract_database.specs.Queries.{tables_in, scope_of, Condition, conditions_of, keys_of, limit_of, is_descending, select_parts, BoundList, each_column, each_value, their_count, BoundKey, BoundQuery, bound_list, bound_condition, bound_key, bound_query, Combination, product, condition_value, keys_cmp, put_before, sorted, cut, Keyed, with_keys, ordered, all_columns, listed, Source, query}
use Rattle.abstract_database.specs.Checks.{checked_select}
use Rattle.abstract_database.specs.Statements.{effect, source_of, selected, select}
use Rattle.abstract_database.proofs.CheckLemmas.{select_checked}
use Rattle.abstract_database.proofs.ResultLemmas.{ok_inside, bind_ok, each_from, Every, every_bind, every_ok}
use Rattle.database_laws.specs.Visible.{is_met, visible_rows}
use Rattle.database_laws.specs.Selections.{meets_all, chosen, value_or_null, combination_cmp, limit_for, shown, IsShown}
use Rattle.database_laws.proofs.QueryLemmas.{of_sorted}
use Rattle.database_laws.proofs.AnswerLemmas.{bound_listed, by_its_names}
use Rattle.database_laws.proofs.VisibleLemmas.{and_true, and_assoc, passing_is_filter}
use Rattle.database_laws.proofs.SortLemmas.{sorted_permutes}

-- ---- the rows that pass

module _ (db : Database) (users : UserNames) where
  pub visible_in : (tables : List TableOf) (visible : List (List Row)) → each (λ (x : Source). passing x.guard x.rows) (map (source_of db users) tables) ≡ Ok visible → visible ≡ map (visible_rows db users) tables
  visible_in [] visible e = sym (ok_inside [] visible e)
  visible_in (t ∷ ts) visible e =
      let s = source_of db users t in
      let one = bind_ok (passing s.guard s.rows) (λ (v : List Row). each (λ (x : Source). passing x.guard x.rows) (map (source_of db users) ts) >>= λ vs. Ok (v ∷ vs)) visible e in
      let more = bind_ok (each (λ (x : Source). passing x.guard x.rows) (map (source_of db users) ts)) (λ (vs : List (List Row)). Ok (one.0 ∷ vs)) visible one.2 in
      sym (ok_inside (one.0 ∷ more.0) visible more.2)
      ∙ ap (λ v. v ∷ more.0) (passing_is_filter s.guard s.rows one.0 one.1)
      ∙ ap (λ vs. visible_rows db users t ∷ vs) (visible_in ts more.0 more.1)

-- ---- ON and WHERE

and_is : (x p : Value) → is_met (and_then x (Ok p)) ≡ (is_met (Ok x) && is_met (Ok p))
and_is (Boolean false) p = refl
and_is (Boolean true) (Boolean true) = refl
and_is (Boolean true) (Boolean false) = refl
and_is (Boolean true) Null = refl
and_is (Boolean true) (Int n) = refl
and_is (Boolean true) (Text t) = refl
and_is Null (Boolean true) = refl
and_is Null (Boolean false) = refl
and_is Null Null = refl
and_is Null (Int n) = refl
and_is Null (Text t) = refl
and_is (Int m) (Boolean true) = refl
and_is (Int m) (Boolean false) = refl
and_is (Int m) Null = refl
and_is (Int m) (Int n) = refl
and_is (Int m) (Text t) = refl
and_is (Text u) (Boolean true) = refl
and_is (Text u) (Boolean false) = refl
and_is (Text u) Null = refl
and_is (Text u) (Int n) = refl
and_is (Text u) (Text t) = refl

and_fails : (x : Value) (code : SqlState) → is_met (and_then x (Err code)) ≡ (is_met (Ok x) && false)
and_fails (Boolean false) code = refl
and_fails (Boolean true) code = refl
and_fails Null code = refl
and_fails (Int n) code = refl
and_fails (Text t) code = refl

then_met : (o p : Outcome) → is_met (with_value o (λ v. and_then v p)) ≡ (is_met o && is_met p)
then_met (Err code) p = refl
then_met (Ok x) (Ok y) = and_is x y
then_met (Ok x) (Err code) = and_fails x code

all_after : (rest : List Outcome) (o : Outcome) → is_met (all_of (o ∷ rest)) ≡ (is_met o && list_all is_met rest)
all_after [] o = and_true (is_met o)
all_after (p ∷ rest) o =
    all_after rest (with_value o (λ v. and_then v p)) ∙ ap (λ b. b && list_all is_met rest) (then_met o p) ∙ and_assoc (is_met o) (is_met p) (list_all is_met rest)

all_met : (os : List Outcome) → is_met (all_of os) ≡ list_all is_met os
all_met [] = refl
all_met (o ∷ os) = all_after os o

module _ (scope : List ScopeTable) (users : UserNames) where
  each_met : (conditions : List Condition) (bound : List (Term ColumnIndex)) → each (bound_condition scope) conditions ≡ Ok bound → (c : Combination) →
      list_all is_met (map (bound_value users c) bound) ≡ meets_all scope users conditions c
  each_met [] bound e c = ap (λ b. list_all is_met (map (bound_value users c) b)) (sym (ok_inside [] bound e))
  each_met (on ∷ ons) bound e c =
      let first = bind_ok (bound_condition scope on) (λ y. each (bound_condition scope) ons >>= λ l. Ok (y ∷ l)) bound e in
      let rest = bind_ok (each (bound_condition scope) ons) (λ l. Ok (first.0 ∷ l)) bound first.2 in
      ap (λ b. list_all is_met (map (bound_value users c) b)) (sym (ok_inside (first.0 ∷ rest.0) bound rest.2))
      ∙ ap (λ o. is_met o && list_all is_met (map (bound_value users c) rest.0)) (resolved_means (take on.tables scope) (cell_in c) users on.term first.0 first.1)
      ∙ ap (λ b. is_met (value_on (take on.tables scope) users c on.term) && b) (each_met ons rest.0 rest.1 c)

  conditions_met : (conditions : List Condition) (bound : List (Term ColumnIndex)) → each (bound_condition scope) conditions ≡ Ok bound → (c : Combination) →
      is_met (condition_value users bound c) ≡ meets_all scope users conditions c
  conditions_met conditions bound e c = all_met (map (bound_value users c) bound) ∙ each_met conditions bound e c

  -- ---- the order

  -- the values of a key and of the keys after it
  record FirstValue (sort : SortKey) (keys : List BoundKey) (c : Combination) (values : List Value) : Type 0 where
    first : Value
    rest : List Value
    first_is : first ≡ value_or_null (value_on scope users c sort.value)
    rest_is : each (λ (key : BoundKey). bound_value users c key.term) keys ≡ Ok rest
    is : first ∷ rest ≡ values

  first_value : (sort : SortKey) (key : BoundKey) (keys : List BoundKey) (c : Combination) (values : List Value) → resolved scope sort.value ≡ Ok key.term →
      each (λ (k : BoundKey). bound_value users c k.term) (key ∷ keys) ≡ Ok values → FirstValue sort keys c values
  first_value sort key keys c values h e =
      let one = bind_ok (bound_value users c key.term) (λ y. each (λ (k : BoundKey). bound_value users c k.term) keys >>= λ l. Ok (y ∷ l)) values e in
      let more = bind_ok (each (λ (k : BoundKey). bound_value users c k.term) keys) (λ l. Ok (one.0 ∷ l)) values one.2 in
      record {
        first = one.0;
        rest = more.0;
        first_is = ap value_or_null (sym one.1 ∙ resolved_means scope (cell_in c) users sort.value key.term h);
        rest_is = more.1;
        is = ok_inside (one.0 ∷ more.0) values more.2;
      }

  keys_same : (sorts : List SortKey) (keys : List BoundKey) → each (bound_key scope) sorts ≡ Ok keys → (a b : Combination) (as' bs : List Value) →
      each (λ (key : BoundKey). bound_value users a key.term) keys ≡ Ok as' → each (λ (key : BoundKey). bound_value users b key.term) keys ≡ Ok bs → keys_cmp keys as' bs ≡ combination_cmp scope users sorts a b
  keys_same [] keys e a b as' bs f g = ap (λ k. keys_cmp k as' bs) (sym (ok_inside [] keys e))
  keys_same (sort ∷ sorts) keys e a b as' bs f g =
      let first = bind_ok (bound_key scope sort) (λ y. each (bound_key scope) sorts >>= λ l. Ok (y ∷ l)) keys e in
      let rest = bind_ok (each (bound_key scope) sorts) (λ l. Ok (first.0 ∷ l)) keys first.2 in
      let term = bind_ok (resolved scope sort.value) (λ t. Ok (record { term = t; descending = is_descending sort.direction })) first.0 first.1 in
      let key : BoundKey = record { term = term.0; descending = is_descending sort.direction } in
      let is : key ∷ rest.0 ≡ keys = ap (λ (k : BoundKey). k ∷ rest.0) (ok_inside key first.0 term.2) ∙ ok_inside (first.0 ∷ rest.0) keys rest.2 in
      let at = first_value sort key rest.0 a as' term.1 (ap (each (λ (k : BoundKey). bound_value users a k.term)) is ∙ f) in
      let bt = first_value sort key rest.0 b bs term.1 (ap (each (λ (k : BoundKey). bound_value users b k.term)) is ∙ g) in
      let A = value_or_null (value_on scope users a sort.value) in
      let B = value_or_null (value_on scope users b sort.value) in
      ap (λ k. keys_cmp k as' bs) (sym is) ∙ ap (λ l. keys_cmp (key ∷ rest.0) l bs) (sym at.is) ∙ ap (keys_cmp (key ∷ rest.0) (at.first ∷ at.rest)) (sym bt.is)
      ∙ ap (λ v. ordering_then (cond key.descending (order_of bt.first v) (order_of v bt.first)) (keys_cmp rest.0 at.rest bt.rest)) at.first_is
      ∙ ap (λ w. ordering_then (cond key.descending (order_of w A) (order_of A w)) (keys_cmp rest.0 at.rest bt.rest)) bt.first_is
      ∙ ap (ordering_then (cond key.descending (order_of B A) (order_of A B))) (keys_same sorts rest.0 rest.1 a b at.rest bt.rest at.rest_is bt.rest_is)

-- sorting what is mapped
module _ {A B : Type 0} (f : A → B) (cmp : A → A → Ordering) (other : B → B → Ordering) where
  map_put_at : (b : Bool) (x y : A) (ys : List A) → map f (put_before cmp x ys) ≡ put_before other (f x) (map f ys) →
      map f (cond b (y ∷ put_before cmp x ys) (x ∷ y ∷ ys)) ≡ cond b (f y ∷ put_before other (f x) (map f ys)) (f x ∷ f y ∷ map f ys)
  map_put_at true x y ys go = ap (λ l. f y ∷ l) go
  map_put_at false x y ys go = refl

  map_put : (x : A) (ys : List A) → ((y : A) → Among y ys → cmp x y ≡ other (f x) (f y)) → map f (put_before cmp x ys) ≡ put_before other (f x) (map f ys)
  map_put x [] h = refl
  map_put x (y ∷ ys) h =
      map_put_at (is_gt (cmp x y)) x y ys (map_put x ys (λ z k. h z (inr k)))
      ∙ ap (λ o. cond (is_gt o) (f y ∷ put_before other (f x) (map f ys)) (f x ∷ f y ∷ map f ys)) (h y (inl refl))

  map_sorted : (xs : List A) → ((x y : A) → Among x xs → Among y xs → cmp x y ≡ other (f x) (f y)) → map f (sorted cmp xs) ≡ sorted other (map f xs)
  map_sorted [] h = refl
  map_sorted (x ∷ xs) h =
      map_put x (sorted cmp xs) (λ y k. h x y (inl refl) (inr (of_sorted cmp xs y k)))
      ∙ ap (put_before other (f x)) (map_sorted xs (λ y z k l. h y z (inr k) (inr l)))

  map_take : (n : ℕ) (xs : List A) → map f (take n xs) ≡ take n (map f xs)
  map_take zero [] = refl
  map_take zero (x ∷ xs) = refl
  map_take (suc n) [] = refl
  map_take (suc n) (x ∷ xs) = ap (λ l. f x ∷ l) (map_take n xs)

  map_cut : (limit : Option ℕ) (xs : List A) → map f (cut limit xs) ≡ cut limit (map f xs)
  map_cut None xs = refl
  map_cut (Some n) xs = map_take n xs

module _ (users : UserNames) (keys : List BoundKey) where
  -- a combination beside the values of its keys
  record IsKeyed (c : Combination) (k : Keyed) : Type 0 where
    combination : k.combination ≡ c
    values : each (λ (key : BoundKey). bound_value users c key.term) keys ≡ Ok k.keys

  keyed : (c : Combination) → Every (IsKeyed c) (with_keys users keys c)
  keyed c =
      every_bind (IsKeyed c) (each (λ (key : BoundKey). bound_value users c key.term) keys) _ (λ values is.
      every_ok (IsKeyed c) (record { keys = values; combination = c }) (record { combination = refl; values = is }))

  each_keyed : (cs : List Combination) (ks : List Keyed) → each (with_keys users keys) cs ≡ Ok ks → map (λ (k : Keyed). k.combination) ks ≡ cs
  each_keyed [] ks e = ap (map (λ (k : Keyed). k.combination)) (sym (ok_inside [] ks e))
  each_keyed (c ∷ cs) ks e =
      let first = bind_ok (with_keys users keys c) (λ y. each (with_keys users keys) cs >>= λ l. Ok (y ∷ l)) ks e in
      let rest = bind_ok (each (with_keys users keys) cs) (λ l. Ok (first.0 ∷ l)) ks first.2 in
      ap (map (λ (k : Keyed). k.combination)) (sym (ok_inside (first.0 ∷ rest.0) ks rest.2))
      ∙ ap (λ x. x ∷ map (λ (k : Keyed). k.combination) rest.0) (keyed c first.0 first.1).combination
      ∙ ap (λ l. c ∷ l) (each_keyed cs rest.0 rest.1)

  own_values : (cs : List Combination) (ks : List Keyed) → each (with_keys users keys) cs ≡ Ok ks → (k : Keyed) → Among k ks → each (λ (key : BoundKey). bound_value users k.combination key.term) keys ≡ Ok k.keys
  own_values cs ks e k h =
      let from = each_from (with_keys users keys) cs ks e k h in
      let x = keyed from.0 k from.2 in
      ap (λ c. each (λ (key : BoundKey). bound_value users c key.term) keys) x.combination ∙ x.values

  module _ (scope : List ScopeTable) (sorts : List SortKey) (bound : each (bound_key scope) sorts ≡ Ok keys) where
    pub ordered_is : (limit : Option ℕ) (cs out : List Combination) → ordered users keys limit cs ≡ Ok out → out ≡ cut limit (sorted (combination_cmp scope users sorts) cs)
    ordered_is limit cs out e =
        let cmp = λ (a b : Keyed). keys_cmp keys a.keys b.keys in
        let f = λ (k : Keyed). k.combination in
        let other = combination_cmp scope users sorts in
        let steps = bind_ok (each (with_keys users keys) cs) (λ ks. Ok (map f (cut limit (sorted cmp ks)))) out e in
        sym (ok_inside (map f (cut limit (sorted cmp steps.0))) out steps.2)
        ∙ map_cut f cmp other limit (sorted cmp steps.0)
        ∙ ap (cut limit) (map_sorted f cmp other steps.0 (λ a b h k. keys_same scope users sorts keys bound a.combination b.combination a.keys b.keys (own_values cs steps.0 steps.1 a h) (own_values cs steps.0 steps.1 b k))
        ∙ ap (sorted other) (each_keyed cs steps.0 steps.1))

    -- ---- the list

    listed_is : (l : SelectList) (b : BoundList) (limit : Option ℕ) (cs : List Combination) (rows : List Row) → bound_list scope l ≡ Ok b → listed users b keys limit cs ≡ Ok rows →
        bound_listed users b (cut (limit_for l limit) (sorted (combination_cmp scope users sorts) cs)) ≡ Ok rows
    listed_is list.Asterisk b limit cs rows found e =
        let is = ok_inside each_column b found in
        let out = bind_ok (ordered users keys limit cs) (λ (o : List Combination). Ok (map all_columns o)) rows (ap (λ x. listed users x keys limit cs) is ∙ e) in
        ap (λ x. bound_listed users x (cut limit (sorted (combination_cmp scope users sorts) cs))) (sym is)
        ∙ ap (λ o. bound_listed users each_column o) (sym (ordered_is limit cs out.0 out.1)) ∙ out.2
    listed_is (list.Expressions terms) b limit cs rows found e =
        let at = bind_ok (each (resolved scope) terms) (λ bound. Ok (each_value bound)) b found in
        let is = ok_inside (each_value at.0) b at.2 in
        let out = bind_ok (ordered users keys limit cs) (λ (o : List Combination). each (λ c. each (bound_value users c) at.0) o) rows (ap (λ x. listed users x keys limit cs) is ∙ e) in
        ap (λ x. bound_listed users x (cut limit (sorted (combination_cmp scope users sorts) cs))) (sym is)
        ∙ ap (λ o. bound_listed users (each_value at.0) o) (sym (ordered_is limit cs out.0 out.1)) ∙ out.2
    listed_is list.Count b limit cs rows found e =
        let is = ok_inside their_count b found in
        let order = combination_cmp scope users sorts in
        ap (λ x. bound_listed users x (sorted order cs)) (sym is)
        ∙ ap (λ n. bigint (pos n) >>= λ count. Ok ((count ∷ []) ∷ [])) (length_permutation cs (sorted order cs) (sorted_permutes order cs))
        ∙ ap (λ x. listed users x keys limit cs) is ∙ e

-- ---- what is shown

-- the parts of a query that was bound
pub record IsBoundFrom (scope : List ScopeTable) (s : Select) (q : BoundQuery) : Type 0 where
  pub list_is : bound_list scope s.list ≡ Ok q.list
  pub conditions_are : each (bound_condition scope) (conditions_of s.source) ≡ Ok q.conditions
  pub keys_are : each (bound_key scope) (keys_of s.source) ≡ Ok q.keys
  pub limit_is : q.limit ≡ limit_of s.source
  pub types : List (Unit {0})
  pub typed : check_expressions (select_parts scope s.list s.source) ≡ Ok types

pub bound_from : (scope : List ScopeTable) (s : Select) → Every (IsBoundFrom scope s) (bound_query scope s.list s.source)
bound_from scope s =
    let P = IsBoundFrom scope s in
    every_bind P (bound_list scope s.list) _ (λ l l-is.
    every_bind P (each (bound_condition scope) (conditions_of s.source)) _ (λ conditions conditions-is.
    every_bind P (each (bound_key scope) (keys_of s.source)) _ (λ keys keys-is.
    every_bind P (check_expressions (select_parts scope s.list s.source)) _ (λ typed typed-is.
    every_ok P (record { list = l; conditions = conditions; keys = keys; limit = limit_of s.source }) (record { list_is = l-is; conditions_are = conditions-is; keys_are = keys-is; limit_is = refl; types = typed; typed = typed-is })))))

pub chosen_is : (db : Database) (users : UserNames) (s : Select) (tables : List TableOf) (q : BoundQuery) → IsBoundFrom (scope_of (tables_in s.source) tables) s q →
    (visible : List (List Row)) → each (λ (x : Source). passing x.guard x.rows) (map (source_of db users) tables) ≡ Ok visible →
    (cs : List Combination) → passing (condition_value users q.conditions) (product visible) ≡ Ok cs → cs ≡ chosen db users s tables
chosen_is db users s tables q b visible v cs e =
    let scope = scope_of (tables_in s.source) tables in
    passing_is_filter (condition_value users q.conditions) (product visible) cs e
    ∙ ap (λ (test : Combination → Bool). filter test (product visible)) (fun_ext (λ (c : Combination). conditions_met scope users (conditions_of s.source) q.conditions b.conditions_are c))
    ∙ ap (λ l. filter (meets_all scope users (conditions_of s.source)) (product l)) (visible_in db users tables visible v)

pub is_shown : (db : Database) (users : UserNames) (s : Select) → Every (IsShown db users s) (select db users s)
is_shown db users s =
    let P = IsShown db users s in
    every_bind P (checked_select db users s) (selected db users) (λ c c-is.
    let facts = select_checked db users s c c-is in
    let scope = scope_of (tables_in s.source) c.tables in
    let b = bound_from scope s c.query facts.bound in
    every_bind P (query (map (source_of db users) c.tables) users c.query) _ (λ rows rows-is.
    let visible = bind_ok (each (λ (x : Source). passing x.guard x.rows) (map (source_of db users) c.tables)) _ rows rows-is in
    let cs = bind_ok (passing (condition_value users c.query.conditions) (product visible.0)) (λ (l : List Combination). listed users c.query.list c.query.keys c.query.limit l) rows visible.2 in
    let is = chosen_is db users s c.tables c.query b visible.0 visible.1 cs.0 cs.1 in
    let out : listed users c.query.list c.query.keys (limit_of s.source) (chosen db users s c.tables) ≡ Ok rows =
    ap (λ l. listed users c.query.list c.query.keys l (chosen db users s c.tables)) (sym b.limit_is) ∙ ap (listed users c.query.list c.query.keys c.query.limit) (sym is) ∙ cs.2 in
    every_ok P (effect (answer.Rows rows) db) (record {
      tables = c.tables;
      found = facts.found;
      rows = rows;
      listed = by_its_names scope users s.list c.query.list (shown db users s c.tables) rows b.list_is
          (listed_is users c.query.keys scope (keys_of s.source) b.keys_are s.list c.query.list (limit_of s.source) (chosen db users s c.tables) rows b.list_is out);
      is = refl;
    })))
