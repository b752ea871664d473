-- Rows with one key: what policies that speak of the key alone say of them, and keys that new rows may have.
use Rattle.std.proofs.Common.{◌≡◌, ◌&&◌, ◌||◌, ℕ, zero, suc, Bool, true, false, not, cond, if◌then◌else◌, bytes_eq, filter, fold, List, [], ◌∷◌, ◌++◌, slice_get, Option, Some, None, Result, Ok, Err, refl, sym, ap, ◌∙◌, subst, inl, inr, Ordering, Less, Equal, Greater, is_eq}
use Rattle.std.specs.List.{list_any}
use Rattle.std.specs.Ordering.{ordering_then}
use Rattle.std.proofs.lemmas.Bool.{and_parts}
use Rattle.sql_types.specs.Row.{Row, value_at}
use Rattle.sql_types.specs.Value.{order_of}
use Rattle.sql_types.specs.declared.state.SqlState.{SqlState}
use Rattle.sql_types.specs.declared.value.Value.{Value}
use Rattle.sql_types.specs.declared.value.Value.TheVariants.{Null, Int, Text, Bool as Boolean}
use Rattle.sql_ast.specs.declared.columns.Column.{Column}
use Rattle.sql_ast.specs.declared.columns.ColumnType.{ColumnType}
use Rattle.sql_ast.specs.declared.columns.ColumnType.TheVariants as types
use Rattle.sql_ast.specs.declared.expression.ColumnName.{ColumnName}
use Rattle.sql_ast.specs.declared.scope.ColumnIndex.{ColumnIndex}
use Rattle.sql_ast.specs.declared.policy.Policy.{Policy}
use Rattle.sql_ast.specs.declared.policy.PolicyClause.{PolicyClause}
use Rattle.sql_ast.specs.declared.privilege.Action.{Action}
use Rattle.sql_ast.specs.Rows.{row_cmp}
use Rattle.sql_ast.specs.Scope.{type_of, found_in}
use Rattle.sql_ast.specs.Term.{Term, literal, column, current_user, session_user, comparison, operation, minus, conjunction, disjunction, negation, null_test, not_null_test, member_test}
use Rattle.expressions.specs.Outcome.{Outcome, with_value, with_both}
use Rattle.expressions.specs.Operators.{compared, calculated, negated, not_value, is_null}
use Rattle.expressions.specs.Meaning.{UserNames, value_of, member_value, and_then, or_else}
use Rattle.expressions.specs.Names.{cell_found, cell_named}
use Rattle.expressions.specs.Types.{is_of}
use Rattle.expressions.proofs.OrderLaws.{compared_equal}
use Rattle.abstract_database.specs.Lists.{TheName, Among, drop_where}
use Rattle.abstract_database.specs.Database.{TableOf, Database}
use Rattle.abstract_database.specs.Expressions.{own_scope, columns_in, row_at, cell_in}
use Rattle.abstract_database.specs.Guards.{is_guarded, is_for_action, is_for_role, applicable, using_clause, is_permissive, condition_of, conditions, any_of, formula, guard_formula, guard}
use Rattle.abstract_database.specs.Changes.{has_double_key}
use Rattle.abstract_database.proofs.ElementLemmas.{of_filter}
use Rattle.abstract_database.proofs.ListLemmas.{bytes_same, in_append_left}
use Rattle.abstract_database.proofs.RowOrder.{RowFits}
use Rattle.database_laws.specs.OnePolicy.{Concerns, IsOfKey, SpeaksOfKeys}
use Rattle.database_laws.proofs.TableLemmas.{in_right}
use Rattle.database_laws.proofs.WholeLists.{of_append, of_flat_map}

-- ---- an expression has one value where its columns have

module _ (users : UserNames) (cell other : ColumnName → Value) where
  abbrev SameCells : List ColumnName → Type 0
  SameCells names = (c : ColumnName) → Among c names → cell c ≡ other c

  of_left : (a b : Term ColumnName) → SameCells (columns_in a ++ columns_in b) → SameCells (columns_in a)
  of_left a b h c k = h c (in_append_left (columns_in a) (columns_in b) c k)

  of_right : (a b : Term ColumnName) → SameCells (columns_in a ++ columns_in b) → SameCells (columns_in b)
  of_right a b h c k = h c (in_right (columns_in a) (columns_in b) c k)

  pub same_value : (e : Term ColumnName) → SameCells (columns_in e) → value_of cell users e ≡ value_of other users e
  same_value (literal v) h = refl
  same_value (column c) h = ap (λ (v : Value). Ok v) (h c (inl refl))
  same_value current_user h = refl
  same_value session_user h = refl
  same_value (comparison op a b) h =
      ap (λ o. with_both o (value_of cell users b) (λ x y. Ok (compared op x y))) (same_value a (of_left a b h))
      ∙ ap (λ o. with_both (value_of other users a) o (λ x y. Ok (compared op x y))) (same_value b (of_right a b h))
  same_value (operation op a b) h =
      ap (λ o. with_both o (value_of cell users b) (λ x y. calculated op x y)) (same_value a (of_left a b h))
      ∙ ap (λ o. with_both (value_of other users a) o (λ x y. calculated op x y)) (same_value b (of_right a b h))
  same_value (minus a) h = ap (λ o. with_value o negated) (same_value a h)
  same_value (conjunction a b) h =
      ap (λ o. with_value o (λ x. and_then x (value_of cell users b))) (same_value a (of_left a b h))
      ∙ ap (λ o. with_value (value_of other users a) (λ x. and_then x o)) (same_value b (of_right a b h))
  same_value (disjunction a b) h =
      ap (λ o. with_value o (λ x. or_else x (value_of cell users b))) (same_value a (of_left a b h))
      ∙ ap (λ o. with_value (value_of other users a) (λ x. or_else x o)) (same_value b (of_right a b h))
  same_value (negation a) h = ap (λ o. with_value o (λ x. Ok (not_value x))) (same_value a h)
  same_value (null_test a) h = ap (λ o. with_value o (λ x. Ok (Boolean (is_null x)))) (same_value a h)
  same_value (not_null_test a) h = ap (λ o. with_value o (λ x. Ok (Boolean (not (is_null x))))) (same_value a h)
  same_value (member_test a) h = ap (λ o. with_value o (λ x. Ok (member_value users x))) (same_value a h)

-- ---- the formula of policies speaks of what they speak of

module _ (P : ColumnName → Type 0) where
  abbrev Speaks : Term ColumnName → Type 0
  Speaks e = (c : ColumnName) → Among c (columns_in e) → P c

  both_speak : (a b : Term ColumnName) → Speaks a → Speaks b → (c : ColumnName) → Among c (columns_in a ++ columns_in b) → P c
  both_speak a b h k c m = elim (of_append (columns_in a) (columns_in b) c m) [ inl l ↦ h c l | inr r ↦ k c r ]

  abbrev AllSpeak : List (Term ColumnName) → Type 0
  AllSpeak es = (e : Term ColumnName) → Among e es → Speaks e

  any_speaks : (p : Term ColumnName) (ps : List (Term ColumnName)) → Speaks p → AllSpeak ps → Speaks (fold disjunction p ps)
  any_speaks p [] h k = h
  any_speaks p (q ∷ qs) h k = any_speaks (disjunction p q) qs (both_speak p q h (k q (inl refl))) (λ r m. k r (inr m))

  all_speak : (p : Term ColumnName) (ps : List (Term ColumnName)) → Speaks p → AllSpeak ps → Speaks (fold conjunction p ps)
  all_speak p [] h k = h
  all_speak p (q ∷ qs) h k = all_speak (conjunction p q) qs (both_speak p q h (k q (inl refl))) (λ r m. k r (inr m))

  any_of_speaks : (ps : List (Term ColumnName)) → AllSpeak ps → Speaks (any_of ps)
  any_of_speaks [] k = λ c m. absurd m
  any_of_speaks (p ∷ ps) k = any_speaks p ps (k p (inl refl)) (λ q m. k q (inr m))

  pub formula_speaks : (permissive restrictive : List (Term ColumnName)) → AllSpeak permissive → AllSpeak restrictive → Speaks (formula permissive restrictive)
  formula_speaks permissive restrictive h k = all_speak (any_of permissive) restrictive (any_of_speaks permissive h) k

module _ (db : Database) (role : TheName) (t : TableOf) (a : Action) (keys : SpeaksOfKeys db role t) where
  abbrev applies : Policy → Bool
  applies p = bytes_eq p.table t.name && is_for_action a p.command && is_for_role db.memberships role p.roles

  clause_speaks : (p : Policy) → Concerns db role t.name p → (o : Option PolicyClause) → p.using ≡ o → (e : Term ColumnName) → Among e (condition_of o) → Speaks (IsOfKey t) e
  clause_speaks p of None is e k = absurd k
  clause_speaks p of (Some clause) is e (inl same) = subst (Speaks (IsOfKey t)) same (λ c m. keys p clause c of is m)
  clause_speaks p of (Some clause) is e (inr k) = absurd k

  conditions_speak : (f : Policy → Bool) → AllSpeak (IsOfKey t) (conditions using_clause (filter f (applicable db role t a)))
  conditions_speak f e h =
      let from = of_flat_map (λ p. condition_of (using_clause p)) (filter f (applicable db role t a)) e h in
      let applying = of_filter applies db.policies from.0 (of_filter f (applicable db role t a) from.0 from.1).0 in
      let tests = and_parts (bytes_eq from.0.table t.name && is_for_action a from.0.command) (is_for_role db.memberships role from.0.roles) applying.1 in
      let own = bytes_same from.0.table t.name (and_parts (bytes_eq from.0.table t.name) (is_for_action a from.0.command) tests.0).0 in
      clause_speaks from.0 (record { among = applying.0; of_table = own; for_role = tests.1 }) from.0.using refl e from.2

  pub guard_speaks : Speaks (IsOfKey t) (guard_formula using_clause (applicable db role t a))
  guard_speaks = formula_speaks (IsOfKey t) (conditions using_clause (filter is_permissive (applicable db role t a))) (conditions using_clause (filter (λ p. not (is_permissive p)) (applicable db role t a)))
      (conditions_speak is_permissive) (conditions_speak (λ p. not (is_permissive p)))

-- ---- values and rows with one key

value_same : (k : Option ColumnType) (x y : Value) → is_of k x ≡ true → is_of k y ≡ true → order_of x y ≡ Equal → x ≡ y
value_same k Null Null f g e = refl
value_same k Null (Int y) f g e = cc
value_same k Null (Text y) f g e = cc
value_same k Null (Boolean y) f g e = cc
value_same k (Int x) Null f g e = cc
value_same k (Text x) Null f g e = cc
value_same k (Boolean x) Null f g e = cc
value_same k (Int x) (Int y) f g e = compared_equal (Int x) (Int y) (ap (λ (o : Ordering). Some o) e)
value_same k (Text x) (Text y) f g e = compared_equal (Text x) (Text y) (ap (λ (o : Ordering). Some o) e)
value_same k (Boolean x) (Boolean y) f g e = compared_equal (Boolean x) (Boolean y) (ap (λ (o : Ordering). Some o) e)
value_same None (Int x) (Text y) f g e = cc
value_same (Some types.BigInt) (Int x) (Text y) f g e = cc
value_same (Some types.Text) (Int x) (Text y) f g e = cc
value_same (Some types.Boolean) (Int x) (Text y) f g e = cc
value_same None (Int x) (Boolean y) f g e = cc
value_same (Some types.BigInt) (Int x) (Boolean y) f g e = cc
value_same (Some types.Text) (Int x) (Boolean y) f g e = cc
value_same (Some types.Boolean) (Int x) (Boolean y) f g e = cc
value_same None (Text x) (Int y) f g e = cc
value_same (Some types.BigInt) (Text x) (Int y) f g e = cc
value_same (Some types.Text) (Text x) (Int y) f g e = cc
value_same (Some types.Boolean) (Text x) (Int y) f g e = cc
value_same None (Text x) (Boolean y) f g e = cc
value_same (Some types.BigInt) (Text x) (Boolean y) f g e = cc
value_same (Some types.Text) (Text x) (Boolean y) f g e = cc
value_same (Some types.Boolean) (Text x) (Boolean y) f g e = cc
value_same None (Boolean x) (Int y) f g e = cc
value_same (Some types.BigInt) (Boolean x) (Int y) f g e = cc
value_same (Some types.Text) (Boolean x) (Int y) f g e = cc
value_same (Some types.Boolean) (Boolean x) (Int y) f g e = cc
value_same None (Boolean x) (Text y) f g e = cc
value_same (Some types.BigInt) (Boolean x) (Text y) f g e = cc
value_same (Some types.Text) (Boolean x) (Text y) f g e = cc
value_same (Some types.Boolean) (Boolean x) (Text y) f g e = cc

both_equal : (o p : Ordering) → ordering_then o p ≡ Equal → (o ≡ Equal) × (p ≡ Equal)
both_equal Less p e = cc
both_equal Equal p e = (refl, e)
both_equal Greater p e = cc

key_same : (columns : List Column) (key : List ℕ) (a b : Row) → RowFits columns a → RowFits columns b → row_cmp key a b ≡ Equal → (i : ℕ) → Among i key → value_at a i ≡ value_at b i
key_same columns [] a b fa fb e i h = absurd h
key_same columns (k ∷ ks) a b fa fb e i (inl is) =
    subst (λ (j : ℕ). value_at a j ≡ value_at b j) is
    (value_same (type_of (slice_get columns k)) (value_at a k) (value_at b k) (fa k) (fb k) (both_equal (order_of (value_at a k) (value_at b k)) (row_cmp ks a b) e).0)
key_same columns (k ∷ ks) a b fa fb e i (inr later) = key_same columns ks a b fa fb (both_equal (order_of (value_at a k) (value_at b k)) (row_cmp ks a b) e).1 i later

-- ---- one guard of rows with one key

module _ (t : TableOf) (a b : Row) (same : (i : ℕ) → Among i t.layout.key → value_at a i ≡ value_at b i) where
  of_table : (table i : ℕ) → value_at a i ≡ value_at b i → value_at (row_at (a ∷ []) table) i ≡ value_at (row_at (b ∷ []) table) i
  of_table zero i e = e
  of_table (suc n) i e = refl

  of_index : (c : ColumnName) → IsOfKey t c → (r : Result ColumnIndex SqlState) → found_in (own_scope t) c ≡ r → cell_found (cell_in (a ∷ [])) r ≡ cell_found (cell_in (b ∷ [])) r
  of_index c is (Err code) e = refl
  of_index c is (Ok index) e = of_table index.table index.column (same index.column (is index e))

  pub cell_same : (c : ColumnName) → IsOfKey t c → cell_named (own_scope t) (cell_in (a ∷ [])) c ≡ cell_named (own_scope t) (cell_in (b ∷ [])) c
  cell_same c is = of_index c is (found_in (own_scope t) c) refl

module _ (db : Database) (users : UserNames) (t : TableOf) (keys : SpeaksOfKeys db users.current t) (a b : Row) (fa : RowFits t.layout.columns a) (fb : RowFits t.layout.columns b) where
  pub guard_same : (action : Action) → row_cmp t.layout.key a b ≡ Equal → guard db users t action using_clause a ≡ guard db users t action using_clause b
  guard_same action e =
      let f = guard_formula using_clause (applicable db users.current t action) in
      let same = key_same t.layout.columns t.layout.key a b fa fb e in
      ap (λ (o : Outcome). if is_guarded db users.current t then o else Ok (Boolean true))
      (same_value users (cell_named (own_scope t) (cell_in (a ∷ []))) (cell_named (own_scope t) (cell_in (b ∷ []))) f
      (λ c m. cell_same t a b same c (guard_speaks db users.current t action keys c m)))

-- ---- keys that stand twice, beside rows that no new row meets

any_append : {X : Type 0} (f : X → Bool) (xs ys : List X) → list_any f (xs ++ ys) ≡ (list_any f xs || list_any f ys)
any_append f [] ys = refl
any_append f (x ∷ xs) ys = either (f x) (any_append f xs ys) where
  either : (b : Bool) → list_any f (xs ++ ys) ≡ (list_any f xs || list_any f ys) → (b || list_any f (xs ++ ys)) ≡ ((b || list_any f xs) || list_any f ys)
  either true e = refl
  either false e = e

none_of : (a b : Bool) → (a || b) ≡ false → (a ≡ false) × (b ≡ false)
none_of true b e = cc
none_of false b e = (refl, e)

dropped_at : {X : Type 0} (f test : X → Bool) (x : X) (xs : List X) (b : Bool) → f x ≡ false → list_any f (drop_where test xs) ≡ false → list_any f (cond b (x ∷ drop_where test xs) (drop_where test xs)) ≡ false
dropped_at f test x xs true e go = ap (λ c. c || list_any f (drop_where test xs)) e ∙ go
dropped_at f test x xs false e go = go

any_dropped : {X : Type 0} (f test : X → Bool) (xs : List X) → list_any f xs ≡ false → list_any f (drop_where test xs) ≡ false
any_dropped f test [] e = refl
any_dropped f test (x ∷ xs) e = let parts = none_of (f x) (list_any f xs) e in dropped_at f test x xs (not (test x)) parts.0 (any_dropped f test xs parts.1)

module _ (key : List ℕ) (silent : Row → Bool) (new : List Row) where
  abbrev meets : List Row → Row → Bool
  meets rows row = list_any (λ other. is_eq (row_cmp key row other)) rows

  -- of rows with keys of their own, new ones beside them meet none
  meets_new : (row : Row) (rows : List Row) → meets rows row ≡ false → meets (rows ++ new) row ≡ meets new row
  meets_new row rows e = any_append (λ other. is_eq (row_cmp key row other)) rows new ∙ ap (λ b. b || meets new row) e

  abbrev pub NoSilentMeets : List Row → Type 0
  NoSilentMeets rows = (row : Row) → Among row rows → silent row ≡ true → meets new row ≡ false

  doubles_at : (row : Row) (rows : List Row) (b : Bool) → silent row ≡ b → meets rows row ≡ false → (b ≡ true → meets new row ≡ false) →
      has_double_key key (rows ++ new) ≡ has_double_key key (drop_where silent rows ++ new) →
      has_double_key key (row ∷ (rows ++ new)) ≡ has_double_key key (cond (not b) (row ∷ drop_where silent rows) (drop_where silent rows) ++ new)
  doubles_at row rows true e own unmet go = ap (λ m. m || has_double_key key (rows ++ new)) (meets_new row rows own ∙ unmet refl) ∙ go
  doubles_at row rows false e own unmet go =
      ap (λ m. m || has_double_key key (rows ++ new)) (meets_new row rows own ∙ sym (meets_new row (drop_where silent rows) (any_dropped (λ other. is_eq (row_cmp key row other)) silent rows own)))
      ∙ ap (λ m. meets (drop_where silent rows ++ new) row || m) go

  said_doubles : (rows : List Row) → has_double_key key rows ≡ false → NoSilentMeets rows → has_double_key key (rows ++ new) ≡ has_double_key key (drop_where silent rows ++ new)
  said_doubles [] distinct h = refl
  said_doubles (row ∷ rows) distinct h =
      let parts = none_of (meets rows row) (has_double_key key rows) distinct in
      doubles_at row rows (silent row) refl parts.0 (h row (inl refl)) (said_doubles rows parts.1 (λ x k. h x (inr k)))

  pub doubles_alike : (kept other : List Row) → has_double_key key kept ≡ false → has_double_key key other ≡ false → NoSilentMeets kept → NoSilentMeets other →
      drop_where silent kept ≡ drop_where silent other → has_double_key key (kept ++ new) ≡ has_double_key key (other ++ new)
  doubles_alike kept other p q h k same = said_doubles kept p h ∙ ap (λ l. has_double_key key (l ++ new)) same ∙ sym (said_doubles other q k)
