-- The sort keys of a SELECT order its combinations: each has values of one type.
use Rattle.std.proofs.Common.{◌≡◌, ℕ, zero, suc, Bool, true, false, cond, List, [], ◌∷◌, map, slice_get, Some, None, Ok, Err, refl, sym, ap, ◌∙◌, subst, inl, inr, Ordering, Less, Equal, Greater, nat_cmp}
use Rattle.std.specs.Ordering.{ordering_then, ordering_reverse}
use Rattle.std.specs.Cmp.{IsTotalOrder, bool_cmp_total}
use Rattle.std.specs.Cmp.Lexicographic.{slice_cmp, lists_total}
use Rattle.std.proofs.lemmas.Cmp.{nat_cmp_total, int_cmp_total, then_total}
use Rattle.sql_types.specs.Row.{Row, value_at}
use Rattle.sql_types.specs.Value.{order_of}
use Rattle.sql_types.specs.declared.value.Value.{Value}
use Rattle.sql_types.specs.declared.value.Value.TheVariants.{Null, Int, Text, Bool as Boolean}
use Rattle.sql_types.specs.declared.state.SqlState.TheVariants.{DatatypeMismatch}
use Rattle.sql_ast.specs.declared.columns.Column.{Column}
use Rattle.sql_ast.specs.declared.columns.ColumnType.{ColumnType}
use Rattle.sql_ast.specs.declared.columns.ColumnType.TheVariants as types
use Rattle.sql_ast.specs.declared.scope.ColumnIndex.{ColumnIndex}
use Rattle.sql_ast.specs.declared.privilege.Action.TheVariants as action
use Rattle.sql_ast.specs.declared.statement.Select.{Select}
use Rattle.sql_ast.specs.declared.statement.SortKey.{SortKey}
use Rattle.sql_ast.specs.declared.statement.TableReference.{TableReference}
use Rattle.sql_ast.specs.Scope.{Table as ScopeTable, columns_of, type_of, type_at}
use Rattle.expressions.specs.Outcome.{Outcome}
use Rattle.expressions.specs.Meaning.{UserNames}
use Rattle.expressions.specs.Parts.{Part, check_type, is_expected}
use Rattle.expressions.specs.Types.{ValueType, is_of, names_then_types}
use Rattle.expressions.specs.Stages.{◌>>=◌, require, each}
use Rattle.abstract_database.specs.Lists.{Among}
use Rattle.abstract_database.specs.Database.{TableOf, Database, is_table_named, rows_named}
use Rattle.abstract_database.specs.Expressions.{cell_in, row_at, value_on}
use Rattle.abstract_database.specs.Guards.{guard, using_clause}
use Rattle.abstract_database.specs.Queries.{tables_in, scope_of, conditions_of, keys_of, select_parts, bound_query, is_descending, Combination, product, sorted}
use Rattle.abstract_database.specs.Checks.{find_definition, checked_select}
use Rattle.abstract_database.specs.Statements.{Effect, selected, select}
use Rattle.abstract_database.proofs.CheckLemmas.{found_definition, found_rows, select_checked}
use Rattle.abstract_database.proofs.ElementLemmas.{of_filter}
use Rattle.abstract_database.proofs.ResultLemmas.{ok_inside, bind_ok}
use Rattle.abstract_database.proofs.RowOrder.{RowFits, row_reversed, row_follows}
use Rattle.abstract_database.proofs.ValueTypes.{checked_value}
use Rattle.database_laws.specs.Tables.{EachTable, IsTyped}
use Rattle.database_laws.specs.Visible.{is_met, visible_rows}
use Rattle.database_laws.specs.Selections.{meets_all, chosen, value_or_null, combination_cmp, sort_cmp, IsSortOf}
use Rattle.database_laws.proofs.AnswerLemmas.{of_pairs}
use Rattle.database_laws.proofs.QueryLemmas.{into_map}
use Rattle.database_laws.proofs.SelectionLemmas.{bound_from}
use Rattle.database_laws.proofs.SortLemmas.{IsTotalAmong, sorts}
use Rattle.database_laws.proofs.TableLemmas.{fine_parts, in_right}
use Rattle.database_laws.proofs.WholeLists.{find_found}

-- ---- values of one type

texts_total : IsTotalOrder (slice_cmp nat_cmp)
texts_total = lists_total nat_cmp_total

then_equal : (o : Ordering) → ordering_then o Equal ≡ o
then_equal Less = refl
then_equal Equal = refl
then_equal Greater = refl

reversed : (a b : Value) → order_of a b ≡ ordering_reverse (order_of b a)
reversed a b = sym (then_equal (order_of a b)) ∙ row_reversed (0 ∷ []) (a ∷ []) (b ∷ []) ∙ ap ordering_reverse (then_equal (order_of b a))

alike : (k : ColumnType) (a b c : Value) → is_of (Some k) a ≡ true → is_of (Some k) b ≡ true → order_of a b ≡ Equal → order_of a c ≡ order_of b c
alike k Null Null c fa fb e = refl
alike k Null (Int y) c fa fb e = cc
alike k Null (Text y) c fa fb e = cc
alike k Null (Boolean y) c fa fb e = cc
alike k (Int x) Null c fa fb e = cc
alike k (Text x) Null c fa fb e = cc
alike k (Boolean x) Null c fa fb e = cc
alike k (Int x) (Int y) Null fa fb e = refl
alike k (Int x) (Int y) (Int z) fa fb e = int_cmp_total.congr x y z e
alike k (Int x) (Int y) (Text z) fa fb e = refl
alike k (Int x) (Int y) (Boolean z) fa fb e = refl
alike k (Text x) (Text y) Null fa fb e = refl
alike k (Text x) (Text y) (Int z) fa fb e = refl
alike k (Text x) (Text y) (Text z) fa fb e = texts_total.congr x y z e
alike k (Text x) (Text y) (Boolean z) fa fb e = refl
alike k (Boolean x) (Boolean y) Null fa fb e = refl
alike k (Boolean x) (Boolean y) (Int z) fa fb e = refl
alike k (Boolean x) (Boolean y) (Text z) fa fb e = refl
alike k (Boolean x) (Boolean y) (Boolean z) fa fb e = bool_cmp_total.congr x y z e
alike types.BigInt (Int x) (Text y) c fa fb e = cc
alike types.Text (Int x) (Text y) c fa fb e = cc
alike types.Boolean (Int x) (Text y) c fa fb e = cc
alike types.BigInt (Int x) (Boolean y) c fa fb e = cc
alike types.Text (Int x) (Boolean y) c fa fb e = cc
alike types.Boolean (Int x) (Boolean y) c fa fb e = cc
alike types.BigInt (Text x) (Int y) c fa fb e = cc
alike types.Text (Text x) (Int y) c fa fb e = cc
alike types.Boolean (Text x) (Int y) c fa fb e = cc
alike types.BigInt (Text x) (Boolean y) c fa fb e = cc
alike types.Text (Text x) (Boolean y) c fa fb e = cc
alike types.Boolean (Text x) (Boolean y) c fa fb e = cc
alike types.BigInt (Boolean x) (Int y) c fa fb e = cc
alike types.Text (Boolean x) (Int y) c fa fb e = cc
alike types.Boolean (Boolean x) (Int y) c fa fb e = cc
alike types.BigInt (Boolean x) (Text y) c fa fb e = cc
alike types.Text (Boolean x) (Text y) c fa fb e = cc
alike types.Boolean (Boolean x) (Text y) c fa fb e = cc

module _ (k : ColumnType) where
  abbrev one_column : List Column
  one_column = record { name = []; column_type = k; not_null = false } ∷ []

  alone_fits : (v : Value) → is_of (Some k) v ≡ true → RowFits one_column (v ∷ [])
  alone_fits v h zero = h
  alone_fits v h (suc index) = refl

  follows : (a b c : Value) → is_of (Some k) a ≡ true → is_of (Some k) b ≡ true → is_of (Some k) c ≡ true → order_of a b ≡ Less → order_of b c ≡ Less → order_of a c ≡ Less
  follows a b c fa fb fc e f =
      sym (then_equal (order_of a c))
      ∙ row_follows one_column (0 ∷ []) (a ∷ []) (b ∷ []) (c ∷ []) (alone_fits a fa) (alone_fits b fb) (alone_fits c fc) (then_equal (order_of a b) ∙ e) (then_equal (order_of b c) ∙ f)

  -- a value that is null or of the type
  abbrev ValueOf : Type 0
  ValueOf = (v : Value) × (is_of (Some k) v ≡ true)

  module _ {K : Type 0} (f : K → ValueOf) where
    abbrev directed : Bool → K → K → Ordering
    directed descending a b = cond descending (order_of (f b).0 (f a).0) (order_of (f a).0 (f b).0)

    directed_total : (descending : Bool) → IsTotalOrder (directed descending)
    directed_total false = record {
      antisymm = λ a b. reversed (f a).0 (f b).0;
      trans = λ a b c. follows (f a).0 (f b).0 (f c).0 (f a).1 (f b).1 (f c).1;
      congr = λ a b c. alike k (f a).0 (f b).0 (f c).0 (f a).1 (f b).1;
    }
    directed_total true = record {
      antisymm = λ a b. reversed (f b).0 (f a).0;
      trans = λ a b c e g. follows (f c).0 (f b).0 (f a).0 (f c).1 (f b).1 (f a).1 g e;
      congr = λ a b c e.
          let same : order_of (f a).0 (f b).0 ≡ Equal = reversed (f a).0 (f b).0 ∙ ap ordering_reverse e in
          reversed (f c).0 (f a).0 ∙ ap ordering_reverse (alike k (f a).0 (f b).0 (f c).0 (f a).1 (f b).1 same) ∙ sym (reversed (f c).0 (f b).0);
    }

-- no type stands for any
abbrev some_type : ValueType → ColumnType
some_type None = types.BigInt
some_type (Some k) = k

of_some : (t : ValueType) (v : Value) → is_of t v ≡ true → is_of (Some (some_type t)) v ≡ true
of_some None Null h = refl
of_some None (Int n) h = cc
of_some None (Text t) h = cc
of_some None (Boolean b) h = cc
of_some (Some k) v h = h

null_fits : (t : ValueType) → is_of t Null ≡ true
null_fits None = refl
null_fits (Some k) = refl

-- ---- sort keys

module _ (scope : List ScopeTable) (users : UserNames) (cs : List Combination) where
  abbrev Chosen : Type 0
  Chosen = (c : Combination) × Among c cs

  -- on each combination the key has a value of one type
  abbrev HasType : SortKey → Type 0
  HasType key = (k : ColumnType) × ((c : Combination) → Among c cs → is_of (Some k) (value_or_null (value_on scope users c key.value)) ≡ true)

  keys_total : (keys : List SortKey) → ((key : SortKey) → Among key keys → HasType key) → IsTotalOrder (λ (a b : Chosen). combination_cmp scope users keys a.0 b.0)
  keys_total [] h = record { antisymm = λ a b. refl; trans = λ a b c e f. e; congr = λ a b c e. refl }
  keys_total (key ∷ keys) h =
      let t = h key (inl refl) in
      then_total (directed_total t.0 {K = Chosen} (λ (c : Chosen). (value_or_null (value_on scope users c.0 key.value), t.1 c.0 c.1)) (is_descending key.direction))
      (keys_total keys (λ x k. h x (inr k)))

  total_among : (keys : List SortKey) → ((key : SortKey) → Among key keys → HasType key) → IsTotalAmong (combination_cmp scope users keys) cs
  total_among keys h =
      let total = keys_total keys h in
      record {
        antisymm = λ x y hx hy. total.antisymm (x, hx) (y, hy);
        congr = λ x y z hx hy hz. total.congr (x, hx) (y, hy) (z, hz);
        trans = λ x y z hx hy hz. total.trans (x, hx) (y, hy) (z, hz);
      }

  module _ (fit : (c : Combination) → Among c cs → (index : ColumnIndex) → is_of (type_at scope index) (cell_in c index) ≡ true) where
    has_type : (key : SortKey) (u : Unit {0}) → check_type (record { scope = scope; term = key.value; expected = None }) ≡ Ok u → HasType key
    has_type key u e =
        let t = bind_ok (names_then_types scope key.value) (λ typed. require (is_expected None typed.value_type) DatatypeMismatch) u e in
        (some_type t.0.value_type, λ c h. of_some t.0.value_type (value_or_null (value_on scope users c key.value)) (by_outcome c h t.0 t.1 (value_on scope users c key.value) refl))
      where
        by_outcome : (c : Combination) → Among c cs → (typed : _) → names_then_types scope key.value ≡ Ok typed → (o : Outcome) → value_on scope users c key.value ≡ o → is_of typed.value_type (value_or_null o) ≡ true
        by_outcome c h typed is (Ok v) f = checked_value scope (cell_in c) users (fit c h) key.value typed v is f
        by_outcome c h typed is (Err code) f = null_fits typed.value_type

-- ---- combinations of rows

abbrev is_typed_at : List ScopeTable → Combination → ℕ → ℕ → Type 0
is_typed_at scope c n m = is_of (type_of (slice_get (columns_of (slice_get scope n)) m)) (value_at (row_at c n) m) ≡ true

pair_typed : (r : TableReference) (rs : List TableReference) (t : TableOf) (ts : List TableOf) (first : Row) (others : Combination) →
    ((m : ℕ) → is_of (type_of (slice_get t.layout.columns m)) (value_at first m) ≡ true) → ((n m : ℕ) → is_typed_at (scope_of rs ts) others n m) →
    (n m : ℕ) → is_typed_at (scope_of (r ∷ rs) (t ∷ ts)) (first ∷ others) n m
pair_typed r rs t ts first others here behind zero m = here m
pair_typed r rs t ts first others here behind (suc n) m = behind n m

nothing_typed : (c : Combination) → Among c ([] ∷ []) → (n m : ℕ) → is_typed_at [] c n m
nothing_typed c (inl is) n m = subst (λ x. is_typed_at [] x n m) is refl
nothing_typed c (inr none) n m = absurd none

module _ (db : Database) (users : UserNames) (typed : EachTable IsTyped db) where
  row_typed : (r : TableReference) (t : TableOf) → find_definition db r.table ≡ Ok t → (row : Row) → Among row (visible_rows db users t) → (m : ℕ) → is_of (type_of (slice_get t.layout.columns m)) (value_at row m) ≡ true
  row_typed r t e row h m =
      let f = found_definition db r.table t e in
      let there = find_found (is_table_named r.table) db.tables f.table f.named in
      let among = of_filter (λ (x : Row). is_met (guard db users t action.Select using_clause x)) (rows_named db t.name) row h in
      subst (λ (d : TableOf). is_of (type_of (slice_get d.layout.columns m)) (value_at row m) ≡ true) f.is
      ((typed f.table there.0).1 row (subst (λ l. Among row l) (found_rows db r.table t f) among.0) m)

  combination_typed : (refs : List TableReference) (tables : List TableOf) → each (λ r. find_definition db r.table) refs ≡ Ok tables → (c : Combination) → Among c (product (map (visible_rows db users) tables)) →
      (n m : ℕ) → is_typed_at (scope_of refs tables) c n m
  combination_typed [] tables e c h n m = nothing_typed c (subst (λ ts. Among c (product (map (visible_rows db users) ts))) (sym (ok_inside [] tables e)) h) n m
  combination_typed (r ∷ rs) tables e c h n m =
      let one = bind_ok (find_definition db r.table) (λ y. each (λ (x : TableReference). find_definition db x.table) rs >>= λ l. Ok (y ∷ l)) tables e in
      let rest = bind_ok (each (λ (x : TableReference). find_definition db x.table) rs) (λ l. Ok (one.0 ∷ l)) tables one.2 in
      let is : one.0 ∷ rest.0 ≡ tables = ok_inside (one.0 ∷ rest.0) tables rest.2 in
      let p = of_pairs (product (map (visible_rows db users) rest.0)) (visible_rows db users one.0) c (subst (λ ts. Among c (product (map (visible_rows db users) ts))) (sym is) h) in
      subst (λ ts. is_typed_at (scope_of (r ∷ rs) ts) c n m) is
      (subst (λ x. is_typed_at (scope_of (r ∷ rs) (one.0 ∷ rest.0)) x n m) (sym p.is)
      (pair_typed r rs one.0 rest.0 p.first p.others (row_typed r one.0 one.1 p.first p.among) (combination_typed rs rest.0 rest.1 p.others p.behind) n m))

-- ---- ORDER BY

pub sorted_by_keys : (db : Database) (users : UserNames) (s : Select) (e : Effect) → EachTable IsTyped db → select db users s ≡ Ok e →
    (tables : List TableOf) → each (λ r. find_definition db r.table) (tables_in s.source) ≡ Ok tables →
    IsSortOf (sort_cmp users s tables) (chosen db users s tables) (sorted (sort_cmp users s tables) (chosen db users s tables))
sorted_by_keys db users s e typed is tables found =
    let c = bind_ok (checked_select db users s) (selected db users) e is in
    let facts = select_checked db users s c.0 c.1 in
    let same : c.0.tables ≡ tables = ok_inside c.0.tables tables (sym facts.found ∙ found) in
    let scope = scope_of (tables_in s.source) tables in
    let b = bound_from scope s c.0.query (subst (λ ts. bound_query (scope_of (tables_in s.source) ts) s.list s.source ≡ Ok c.0.query) same facts.bound) in
    let all = product (map (visible_rows db users) tables) in
    let part = λ (key : SortKey). let p : Part = record { scope = scope; term = key.value; expected = None } in p in
    sorts (sort_cmp users s tables) (chosen db users s tables)
    (total_among scope users (chosen db users s tables) (keys_of s.source) (λ key k.
    let fine = fine_parts (select_parts scope s.list s.source) b.types b.typed (part key) (in_right _ (map part (keys_of s.source)) (part key) (into_map part (keys_of s.source) key k)) in
    has_type scope users (chosen db users s tables)
    (λ x h index. combination_typed db users typed (tables_in s.source) tables found x (of_filter (meets_all scope users (conditions_of s.source)) all x h).0 index.table index.column)
    key fine.0 fine.1))
