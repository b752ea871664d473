-- The rows that INSERT and UPDATE make of expressions that were read and checked are rows that their table may hold.
use Rattle.std.proofs.Common.{◌≡◌, ℕ, zero, suc, ◌+◌, Bool, true, false, not, ◌&&◌, cond, nat_eq, nat_le, List, [], ◌∷◌, map, length, Some, Result, Ok, Err, slice_get, refl, sym, ap, ◌∙◌, subst, inl, inr, arith}
use Rattle.std.proofs.lemmas.Bool.{and_parts, leb-true}
use Rattle.std.proofs.lemmas.List.{length-map}
use Rattle.sql_types.specs.Domain.{IsValue}
use Rattle.sql_types.specs.Row.{Row, value_at}
use Rattle.sql_types.specs.declared.value.Value.{Value}
use Rattle.sql_types.specs.declared.value.Value.TheVariants.{Null, Int, Text, Bool as Boolean}
use Rattle.sql_types.specs.declared.state.SqlState.{SqlState}
use Rattle.sql_ast.specs.declared.columns.Column.{Column}
use Rattle.sql_ast.specs.declared.columns.ColumnType.{ColumnType}
use Rattle.sql_ast.specs.declared.columns.ColumnType.TheVariants as type
use Rattle.sql_ast.specs.declared.expression.ColumnName.{ColumnName}
use Rattle.sql_ast.specs.declared.scope.ColumnIndex.{ColumnIndex}
use Rattle.sql_ast.specs.Layout.{Layout}
use Rattle.sql_ast.specs.Rows.{fits_record, key_size, record_size, max_row_key_length, max_value_length}
use Rattle.sql_ast.specs.Scope.{Table as ScopeTable, found_in, type_of}
use Rattle.sql_ast.specs.Fits.{IsOfType, FitsColumn, FitsColumnIfAny, FitsTable}
use Rattle.sql_ast.specs.Term.{Term}
use Rattle.sql_ast.specs.Read.{IsReadTerm}
use Rattle.expressions.specs.Meaning.{UserNames}
use Rattle.expressions.specs.Names.{cell_found, cell_named, resolved}
use Rattle.expressions.specs.Operators.{is_null}
use Rattle.expressions.specs.Stages.{each}
use Rattle.expressions.specs.Types.{is_of}
use Rattle.abstract_database.specs.Database.{TableOf}
use Rattle.abstract_database.specs.Expressions.{own_scope, cell_in, bound_value, value_on}
use Rattle.abstract_database.specs.Changes.{keeps_not_null, value_beside, arranged, inserted_row, assigned, replaced, replaced_from}
use Rattle.abstract_database.specs.Whole.{Each}
use Rattle.abstract_database.proofs.RowOrder.{RowFits}
use Rattle.abstract_database.proofs.ResultLemmas.{bind_ok, ok_inside, each_from}
use Rattle.abstract_database.proofs.ValueTypes.{by_names}
use Rattle.abstract_database.proofs.ReadValues.{AreTexts, value_read}

-- ---- values and columns

fitting_value : (c : Column) (v : Value) → FitsColumn c v → IsValue v
fitting_value c Null f = tt
fitting_value c (Int z) f = number c.column_type f where
  number : (t : ColumnType) → IsOfType t (Int z) → IsValue (Int z)
  number type.BigInt g = g
  number type.Text g = absurd g
  number type.Boolean g = absurd g
fitting_value c (Text t) f = text c.column_type f where
  text : (k : ColumnType) → IsOfType k (Text t) → IsValue (Text t)
  text type.BigInt g = absurd g
  text type.Text g = g
  text type.Boolean g = absurd g
fitting_value c (Boolean b) f = tt

typed_value : (t : ColumnType) (v : Value) → IsOfType t v → is_of (Some t) v ≡ true
typed_value type.BigInt (Int z) f = refl
typed_value type.BigInt Null f = absurd f
typed_value type.BigInt (Text t) f = absurd f
typed_value type.BigInt (Boolean b) f = absurd f
typed_value type.Text (Text t) f = refl
typed_value type.Text Null f = absurd f
typed_value type.Text (Int z) f = absurd f
typed_value type.Text (Boolean b) f = absurd f
typed_value type.Boolean (Boolean b) f = refl
typed_value type.Boolean Null f = absurd f
typed_value type.Boolean (Int z) f = absurd f
typed_value type.Boolean (Text t) f = absurd f

fitting_type : (c : Column) (v : Value) → FitsColumn c v → is_of (Some c.column_type) v ≡ true
fitting_type c Null f = refl
fitting_type c (Int z) f = typed_value c.column_type (Int z) f
fitting_type c (Text t) f = typed_value c.column_type (Text t) f
fitting_type c (Boolean b) f = typed_value c.column_type (Boolean b) f

of_its_type : (t : ColumnType) (v : Value) → (v ≡ Null → ⊥) → is_of (Some t) v ≡ true → IsValue v → IsOfType t v
of_its_type t Null n e h = absurd (n refl)
of_its_type type.BigInt (Int z) n e h = h
of_its_type type.Text (Int z) n e h = cc
of_its_type type.Boolean (Int z) n e h = cc
of_its_type type.BigInt (Text s) n e h = cc
of_its_type type.Text (Text s) n e h = h
of_its_type type.Boolean (Text s) n e h = cc
of_its_type type.BigInt (Boolean b) n e h = cc
of_its_type type.Text (Boolean b) n e h = cc
of_its_type type.Boolean (Boolean b) n e h = tt

may_be_null : (b : Bool) → not (b && true) ≡ true → b ≡ false
may_be_null true e = cc
may_be_null false e = refl

fits_there : (c : Column) (v : Value) → is_of (Some c.column_type) v ≡ true → not (c.not_null && is_null v) ≡ true → IsValue v → FitsColumn c v
fits_there c Null typed kept h = may_be_null c.not_null kept
fits_there c (Int z) typed kept h = of_its_type c.column_type (Int z) (λ e. cc) typed h
fits_there c (Text t) typed kept h = of_its_type c.column_type (Text t) (λ e. cc) typed h
fits_there c (Boolean b) typed kept h = of_its_type c.column_type (Boolean b) (λ e. cc) typed h

-- ---- rows

-- a row with a value for each column
pub record IsRowOf (columns : List Column) (row : Row) : Type 0 where
  pub width : length row ≡ length columns
  pub values : (index : ℕ) → IsValue (value_at row index)

values_of : (columns : List Column) (row : Row) → length row ≡ length columns → ((index : ℕ) → FitsColumnIfAny (slice_get columns index) (value_at row index)) → (index : ℕ) → IsValue (value_at row index)
values_of columns [] width f index = tt
values_of [] (v ∷ vs) width f index = cc
values_of (c ∷ cs) (v ∷ vs) width f zero = fitting_value c v (f zero)
values_of (c ∷ cs) (v ∷ vs) width f (suc index) = values_of cs vs (omega (arith, width)) (λ i. f (suc i)) index

pub row_of : (layout : Layout) (row : Row) → FitsTable layout row → IsRowOf layout.columns row
row_of layout row f = record { width = f.columns.width; values = values_of layout.columns row f.columns.width f.columns.each }

pub types_of : (columns : List Column) (row : Row) → length row ≡ length columns → ((index : ℕ) → FitsColumnIfAny (slice_get columns index) (value_at row index)) → RowFits columns row
types_of columns [] width f index = nothing columns index where
  nothing : (cs : List Column) (i : ℕ) → is_of (type_of (slice_get cs i)) Null ≡ true
  nothing cs i = refl
types_of [] (v ∷ vs) width f index = cc
types_of (c ∷ cs) (v ∷ vs) width f zero = fitting_type c v (f zero)
types_of (c ∷ cs) (v ∷ vs) width f (suc index) = types_of cs vs (omega (arith, width)) (λ i. f (suc i)) index

fits_all : (columns : List Column) (row : Row) → length row ≡ length columns → RowFits columns row → keeps_not_null columns row ≡ true → ((index : ℕ) → IsValue (value_at row index)) → (index : ℕ) → FitsColumnIfAny (slice_get columns index) (value_at row index)
fits_all [] row width typed kept values index = tt
fits_all (c ∷ cs) [] width typed kept values index = cc
fits_all (c ∷ cs) (v ∷ vs) width typed kept values zero = fits_there c v (typed zero) (and_parts (not (c.not_null && is_null v)) (keeps_not_null cs vs) kept).0 (values zero)
fits_all (c ∷ cs) (v ∷ vs) width typed kept values (suc index) =
    fits_all cs vs (omega (arith, width)) (λ i. typed (suc i)) (and_parts (not (c.not_null && is_null v)) (keeps_not_null cs vs) kept).1 (λ i. values (suc i)) index

pub fits_row : (layout : Layout) (row : Row) → IsRowOf layout.columns row → RowFits layout.columns row → keeps_not_null layout.columns row ≡ true → fits_record layout row ≡ true → FitsTable layout row
fits_row layout row of_columns typed kept sized =
    let sizes = and_parts (nat_le (key_size layout.key row) max_row_key_length) (nat_le (record_size layout.key row) max_value_length) sized in
    record {
      columns = record { width = of_columns.width; each = fits_all layout.columns row of_columns.width typed kept of_columns.values };
      limits = record { key = leb-true (key_size layout.key row) max_row_key_length sizes.0; others = leb-true (record_size layout.key row) max_value_length sizes.1 };
    }

-- ---- new values

beside_at : (b : Bool) (v rest : Value) → IsValue v → IsValue rest → IsValue (cond b v rest)
beside_at true v rest h k = h
beside_at false v rest h k = k

module _ (columns : List ℕ) (values : List Value) (fine : Each IsValue values) where
  beside_value : (index : ℕ) (cs : List ℕ) (vs : List Value) (other : Value) → Each IsValue vs → IsValue other → IsValue (value_beside index cs vs other)
  beside_value index [] vs other each h = h
  beside_value index (c ∷ cs) [] other each h = h
  beside_value index (c ∷ cs) (v ∷ vs) other each h = beside_at (nat_eq index c) v (value_beside index cs vs other) (each v (inl refl)) (beside_value index cs vs other (λ w k. each w (inr k)) h)

  width_from : (start : ℕ) (row : Row) → length (replaced_from start columns values row) ≡ length row
  width_from start [] = refl
  width_from start (v ∷ vs) = ap suc (width_from (start + 1) vs)

  values_from : (start : ℕ) (row : Row) → ((index : ℕ) → IsValue (value_at row index)) → (index : ℕ) → IsValue (value_at (replaced_from start columns values row) index)
  values_from start [] old index = tt
  values_from start (v ∷ vs) old zero = beside_value start columns values v fine (old zero)
  values_from start (v ∷ vs) old (suc index) = values_from (start + 1) vs (λ i. old (suc i)) index

  replaced_row : (cs : List Column) (row : Row) → IsRowOf cs row → IsRowOf cs (replaced columns values row)
  replaced_row cs row old = record { width = width_from 0 row ∙ old.width; values = values_from 0 row old.values }

nulls : (cs : List Column) → IsRowOf cs (map (λ c. Null) cs)
nulls cs = record { width = length-map cs (λ (c : Column). Null); values = each_null cs } where
  each_null : (cs : List Column) (index : ℕ) → IsValue (value_at (map (λ c. Null) cs) index)
  each_null [] index = tt
  each_null (c ∷ cs) zero = tt
  each_null (c ∷ cs) (suc index) = each_null cs index

-- ---- values of expressions

found_value : (cell : ColumnIndex → Value) → ((index : ColumnIndex) → IsValue (cell index)) → (tables : List ScopeTable) (c : ColumnName) → IsValue (cell_named tables cell c)
found_value cell cells tables c = at (found_in tables c) where
  at : (r : Result ColumnIndex SqlState) → IsValue (cell_found cell r)
  at (Ok index) = cells index
  at (Err code) = tt

no_cell : (table index : ℕ) → IsValue (cell_in [] (record { table = table; column = index }))
no_cell table index = tt

own_cell : (row : Row) → ((index : ℕ) → IsValue (value_at row index)) → (table index : ℕ) → IsValue (cell_in (row ∷ []) (record { table = table; column = index }))
own_cell row values zero index = values index
own_cell row values (suc table) index = tt

values_read : (users : UserNames) → AreTexts users → (scope : List ScopeTable) (rows : List Row) → ((index : ColumnIndex) → IsValue (cell_in rows index)) → (terms : List (Term ColumnName)) → Each IsReadTerm terms →
    (values : List Value) → each (value_on scope users rows) terms ≡ Ok values → Each IsValue values
values_read users texts scope rows cells terms read values e v h =
    let from = each_from (value_on scope users rows) terms values e v h in
    value_read (cell_named scope (cell_in rows)) (found_value (cell_in rows) cells scope) users texts from.0 (read from.0 from.1) v from.2

pub inserted_is_row : (layout : Layout) (users : UserNames) → AreTexts users → (columns : List ℕ) (terms : List (Term ColumnName)) (bound : List (Term ColumnIndex)) → Each IsReadTerm terms → each (resolved []) terms ≡ Ok bound →
    (row : Row) → inserted_row layout users columns bound ≡ Ok row → IsRowOf layout.columns row
inserted_is_row layout users texts columns terms bound read found row e =
    let steps = bind_ok (each (bound_value users []) bound) (λ values. Ok (arranged layout columns values)) row e in
    let values = values_read users texts [] [] (λ index. no_cell index.table index.column) terms read steps.0 (sym (by_names [] users [] terms bound found) ∙ steps.1) in
    subst (IsRowOf layout.columns) (ok_inside (arranged layout columns steps.0) row steps.2)
    (replaced_row columns steps.0 values layout.columns (map (λ c. Null) layout.columns) (nulls layout.columns))

pub assigned_is_row : (t : TableOf) (users : UserNames) → AreTexts users → (columns : List ℕ) (terms : List (Term ColumnName)) (bound : List (Term ColumnIndex)) → Each IsReadTerm terms → each (resolved (own_scope t)) terms ≡ Ok bound →
    (row : Row) → IsRowOf t.layout.columns row → (new : Row) → assigned users columns bound row ≡ Ok new → IsRowOf t.layout.columns new
assigned_is_row t users texts columns terms bound read found row old new e =
    let steps = bind_ok (each (bound_value users (row ∷ [])) bound) (λ values. Ok (replaced columns values row)) new e in
    let values = values_read users texts (own_scope t) (row ∷ []) (λ index. own_cell row old.values index.table index.column) terms read steps.0 (sym (by_names (own_scope t) users (row ∷ []) terms bound found) ∙ steps.1) in
    subst (IsRowOf t.layout.columns) (ok_inside (replaced columns steps.0 row) new steps.2) (replaced_row columns steps.0 values t.layout.columns row old)
