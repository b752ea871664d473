-- Rows with some columns changed: what names none of these sees no difference.
use Rattle.std.proofs.Common.{◌≡◌, ◌+◌, ◌&&◌, ℕ, zero, suc, arith, Bool, true, not, if◌then◌else◌, filter, List, [], ◌∷◌, slice_get, Option, Some, None, Result, Ok, Err, refl, ap, ◌∙◌, subst, inl, inr}
use Rattle.std.specs.Prelude.{bytes_eq}
use Rattle.std.proofs.lemmas.Bool.{and_parts}
use Rattle.sql_types.specs.Row.{Row, value_at}
use Rattle.sql_types.specs.declared.state.SqlState.{SqlState}
use Rattle.sql_types.specs.declared.value.Value.{Value}
use Rattle.sql_types.specs.declared.value.Value.TheVariants.{Bool as Boolean}
use Rattle.sql_ast.specs.declared.expression.ColumnName.{ColumnName}
use Rattle.sql_ast.specs.declared.policy.Policy.{Policy}
use Rattle.sql_ast.specs.declared.policy.PolicyClause.{PolicyClause}
use Rattle.sql_ast.specs.declared.privilege.Action.{Action}
use Rattle.sql_ast.specs.declared.scope.ColumnIndex.{ColumnIndex}
use Rattle.sql_ast.specs.Scope.{found_in}
use Rattle.sql_ast.specs.Term.{Term}
use Rattle.expressions.specs.Outcome.{Outcome}
use Rattle.expressions.specs.Meaning.{UserNames}
use Rattle.expressions.specs.Names.{cell_found, cell_named}
use Rattle.abstract_database.specs.Lists.{TheName, Among}
use Rattle.abstract_database.specs.Database.{TableOf, Database}
use Rattle.abstract_database.specs.Expressions.{own_scope, columns_in, row_at, cell_in, bound_value}
use Rattle.abstract_database.specs.Guards.{is_guarded, is_for_action, is_for_role, applicable, is_permissive, condition_of, conditions, guard_formula, Clauses, guard}
use Rattle.abstract_database.specs.Queries.{Combination}
use Rattle.abstract_database.proofs.ElementLemmas.{of_filter}
use Rattle.abstract_database.proofs.ListLemmas.{bytes_same}
use Rattle.database_laws.specs.OnePolicy.{Concerns}
use Rattle.database_laws.proofs.KeyLemmas.{same_value, formula_speaks}
use Rattle.database_laws.proofs.ValueLemmas.{decided}
use Rattle.database_laws.proofs.WholeLists.{of_flat_map}
use Rattle.privilege_laws.specs.HiddenColumns.{changed_from}

-- ---- one row

-- this leaves the values of a column as they are
abbrev pub Leaves : (ℕ → Value → Value) → ℕ → Type 0
Leaves change index = (v : Value) → change index v ≡ v

module _ (change : ℕ → Value → Value) where
  pub kept_at : (first i : ℕ) (row : Row) → Leaves change (first + i) → value_at (changed_from first change row) i ≡ value_at row i
  kept_at first i [] leaves = refl
  kept_at first zero (v ∷ vs) leaves = let at : first + 0 ≡ first = omega arith in subst (λ (n : ℕ). change n v ≡ v) at (leaves v)
  kept_at first (suc i) (v ∷ vs) leaves = let at : first + suc i ≡ (first + 1) + i = omega arith in kept_at (first + 1) i vs (subst (Leaves change) at leaves)

  pub all_left : (first : ℕ) (row : Row) → ((i : ℕ) → Leaves change (first + i)) → changed_from first change row ≡ row
  all_left first [] leaves = refl
  all_left first (v ∷ vs) leaves =
      let at : first + 0 ≡ first = omega arith in
      ap (λ (w : Value). w ∷ changed_from (first + 1) change vs) (subst (λ (n : ℕ). change n v ≡ v) at (leaves 0 v))
      ∙ ap (λ (ws : Row). v ∷ ws) (all_left (first + 1) vs (λ i. let next : first + suc i ≡ (first + 1) + i = omega arith in subst (Leaves change) next (leaves (suc i))))

module _ (change : TheName → ℕ → Value → Value) where
  abbrev pub masked_in : TableOf → Row → Row
  masked_in t row = changed_from 0 (change t.name) row

  abbrev pub Shows : TableOf → ℕ → Type 0
  Shows t index = Leaves (change t.name) index

  pub shown_value : (t : TableOf) (row : Row) (index : ℕ) → Shows t index → value_at (masked_in t row) index ≡ value_at row index
  shown_value t row index shows = let at : index ≡ 0 + index = omega arith in kept_at (change t.name) 0 index row (subst (Leaves (change t.name)) at shows)

  -- ---- a row of each table

  abbrev pub masks : List TableOf → Combination → Combination
  masks [] rows = rows
  masks (t ∷ ts) [] = []
  masks (t ∷ ts) (row ∷ rows) = masked_in t row ∷ masks ts rows

  -- the expression names no column that is changed
  abbrev pub IsClean : List TableOf → Term ColumnIndex → Type 0
  IsClean ts e = (c : ColumnIndex) → Among c (columns_in e) → (t : TableOf) → slice_get ts c.table ≡ Some t → Shows t c.column

  some_table : (t u : TableOf) → ◌≡◌ {A = Option TableOf} (Some t) (Some u) → t ≡ u
  some_table t u e = cc

  shown_cell : (ts : List TableOf) (rows : Combination) (table index : ℕ) → ((t : TableOf) → slice_get ts table ≡ Some t → Shows t index) → value_at (row_at (masks ts rows) table) index ≡ value_at (row_at rows table) index
  shown_cell [] rows table index shows = refl
  shown_cell (t ∷ ts) [] table index shows = refl
  shown_cell (t ∷ ts) (row ∷ rows) zero index shows = shown_value t row index (shows t refl)
  shown_cell (t ∷ ts) (row ∷ rows) (suc n) index shows = shown_cell ts rows n index shows

  pub same_bound : (users : UserNames) (ts : List TableOf) (rows : Combination) (e : Term ColumnIndex) → IsClean ts e → bound_value users (masks ts rows) e ≡ bound_value users rows e
  same_bound users ts rows e clean = decided (cell_in (masks ts rows)) (cell_in rows) users e (λ c h. shown_cell ts rows c.table c.column (clean c h))

  -- ---- guards

  -- a name in a condition of the table means no column that is changed
  abbrev pub NamesShown : TableOf → ColumnName → Type 0
  NamesShown t name = (c : ColumnIndex) → found_in (own_scope t) name ≡ Ok c → Shows t c.column

  -- so do those of all these conditions of policies for the role
  abbrev pub PoliciesShow : Clauses → Database → TheName → TableOf → Type 0
  PoliciesShow clause db role t = (p : Policy) (c : PolicyClause) (name : ColumnName) → Concerns db role t.name p → clause p ≡ Some c → Among name (columns_in c.expression) → NamesShown t name

  module _ (db : Database) (users : UserNames) (t : TableOf) (clause : Clauses) (show : PoliciesShow clause db users.current t) (a : Action) where
    abbrev applies : Policy → Bool
    applies p = bytes_eq p.table t.name && is_for_action a p.command && is_for_role db.memberships users.current p.roles

    clause_shows : (p : Policy) → Concerns db users.current t.name p → (o : Option PolicyClause) → clause p ≡ o → (e : Term ColumnName) → Among e (condition_of o) → (name : ColumnName) → Among name (columns_in e) → NamesShown t name
    clause_shows p of None is e k = absurd k
    clause_shows p of (Some c) is e (inl same) = subst (λ (x : Term ColumnName). (name : ColumnName) → Among name (columns_in x) → NamesShown t name) same (λ name h. show p c name of is h)
    clause_shows p of (Some c) is e (inr k) = absurd k

    conditions_show : (f : Policy → Bool) (e : Term ColumnName) → Among e (conditions clause (filter f (applicable db users.current t a))) → (name : ColumnName) → Among name (columns_in e) → NamesShown t name
    conditions_show f e h =
        let from = of_flat_map (λ p. condition_of (clause p)) (filter f (applicable db users.current t a)) e h in
        let applying = of_filter applies db.policies from.0 (of_filter f (applicable db users.current t a) from.0 from.1).0 in
        let tests = and_parts (bytes_eq from.0.table t.name && is_for_action a from.0.command) (is_for_role db.memberships users.current from.0.roles) applying.1 in
        let named = bytes_same from.0.table t.name (and_parts (bytes_eq from.0.table t.name) (is_for_action a from.0.command) tests.0).0 in
        clause_shows from.0 (record { among = applying.0; of_table = named; for_role = tests.1 }) (clause from.0) refl e from.2

    of_table : (row : Row) (table i : ℕ) → Shows t i → value_at (row_at (masked_in t row ∷ []) table) i ≡ value_at (row_at (row ∷ []) table) i
    of_table row zero i shows = shown_value t row i shows
    of_table row (suc n) i shows = refl

    of_index : (row : Row) (c : ColumnName) → NamesShown t c → (r : Result ColumnIndex SqlState) → found_in (own_scope t) c ≡ r → cell_found (cell_in (masked_in t row ∷ [])) r ≡ cell_found (cell_in (row ∷ [])) r
    of_index row c is (Err code) e = refl
    of_index row c is (Ok index) e = of_table row index.table index.column (is index e)

    pub guard_so : (row : Row) → guard db users t a clause (masked_in t row) ≡ guard db users t a clause row
    guard_so row =
        ap (λ (o : Outcome). if is_guarded db users.current t then o else Ok (Boolean true))
        (same_value users (cell_named (own_scope t) (cell_in (masked_in t row ∷ []))) (cell_named (own_scope t) (cell_in (row ∷ []))) (guard_formula clause (applicable db users.current t a))
        (λ c m. of_index row c (formula_speaks (NamesShown t) (conditions clause (filter is_permissive (applicable db users.current t a))) (conditions clause (filter (λ p. not (is_permissive p)) (applicable db users.current t a)))
        (conditions_show is_permissive) (conditions_show (λ p. not (is_permissive p))) c m) (found_in (own_scope t) c) refl))
