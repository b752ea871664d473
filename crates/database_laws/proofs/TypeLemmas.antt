-- The values that UPDATE puts into a table are of their columns' types, whatever the width of its rows.
use Rattle.std.proofs.Common.{◌≡◌, ℕ, zero, suc, nat_eq, Bool, true, false, cond, List, [], ◌∷◌, slice_get, Option, Some, None, Ok, refl, sym, ap, ◌∙◌, subst, inl, inr}
use Rattle.sql_types.specs.Row.{Row, value_at}
use Rattle.sql_types.specs.declared.value.Value.{Value}
use Rattle.sql_ast.specs.declared.columns.ColumnType.{ColumnType}
use Rattle.sql_ast.specs.declared.expression.ColumnName.{ColumnName}
use Rattle.sql_ast.specs.declared.scope.ColumnIndex.{ColumnIndex}
use Rattle.sql_ast.specs.Layout.{Layout}
use Rattle.sql_ast.specs.Scope.{type_at, type_of as type_of_column}
use Rattle.sql_ast.specs.Term.{Term}
use Rattle.expressions.specs.Meaning.{UserNames}
use Rattle.expressions.specs.Names.{resolved}
use Rattle.expressions.specs.Parts.{Part, check_type}
use Rattle.expressions.specs.Stages.{◌>>=◌, each}
use Rattle.expressions.specs.Types.{is_of}
use Rattle.abstract_database.specs.Lists.{TheName, Among}
use Rattle.abstract_database.specs.Database.{TableOf}
use Rattle.abstract_database.specs.Expressions.{column_type, own_scope, cell_in, bound_value, value_on}
use Rattle.abstract_database.specs.Changes.{value_beside, replaced, assigned}
use Rattle.abstract_database.specs.Checks.{found_column, value_parts}
use Rattle.std.proofs.lemmas.Bool.{eqb-true}
use Rattle.abstract_database.proofs.ResultLemmas.{ok_inside, bind_ok, each_from}
use Rattle.abstract_database.proofs.RowOrder.{RowFits}
use Rattle.abstract_database.proofs.ValueTypes.{part_value, by_names}
use Rattle.database_laws.proofs.ColumnLemmas.{column_found, value_put, missing_stays, value_in, value_there}

-- ---- columns that were found

-- a column that has a name has a type
abbrev HasType : Layout → ℕ → Type 0
HasType layout column = (k : ColumnType) × (column_type layout column ≡ Some k)

found_type : (layout : Layout) (name : TheName) (column : ℕ) → found_column layout name ≡ Ok column → HasType layout column
found_type layout name column e = let at = column_found layout name column e in (at.0.column_type, ap type_of_column at.1)

pub found_types : (layout : Layout) (names : List TheName) (columns : List ℕ) → each (found_column layout) names ≡ Ok columns → (column : ℕ) → Among column columns → (k : ColumnType) × (column_type layout column ≡ Some k)
found_types layout names columns e column h = let from = each_from (found_column layout) names columns e column h in found_type layout from.0 column from.2

-- ---- UPDATE

-- the cells of a row of the table are of the types of its columns
own_cells : (t : TableOf) (row : Row) → RowFits t.layout.columns row → (table index : ℕ) → is_of (type_at (own_scope t) (record { table = table; column = index })) (cell_in (row ∷ []) (record { table = table; column = index })) ≡ true
own_cells t row fit zero index = fit index
own_cells t row fit (suc table) index = refl

module _ (t : TableOf) (users : UserNames) (row : Row) (fit : RowFits t.layout.columns row) (index : ℕ) where
  abbrev IsFitting : Value → Type 0
  IsFitting v = is_of (column_type t.layout index) v ≡ true

  fitting_at : (column : ℕ) (v rest : Value) (b : Bool) → nat_eq index column ≡ b → (index ≡ column → IsFitting v) → IsFitting rest → IsFitting (cond b v rest)
  fitting_at column v rest true e f h = f (eqb-true index column e)
  fitting_at column v rest false e f h = h

  new_fits : (columns : List ℕ) (terms : List (Term ColumnName)) (values : List Value) → ((column : ℕ) → Among column columns → (k : ColumnType) × (column_type t.layout column ≡ Some k)) →
      ((p : Part) → Among p (value_parts (own_scope t) t.layout columns terms) → (u : Unit {0}) × (check_type p ≡ Ok u)) → each (value_on (own_scope t) users (row ∷ [])) terms ≡ Ok values →
      (old : Value) → IsFitting old → IsFitting (value_beside index columns values old)
  new_fits [] terms values typed ok e old was = was
  new_fits (c ∷ cs) [] values typed ok e old was = subst (λ vs. IsFitting (value_beside index (c ∷ cs) vs old)) (ok_inside [] values e) was
  new_fits (c ∷ cs) (x ∷ xs) values typed ok e old was =
      let first = bind_ok (value_on (own_scope t) users (row ∷ []) x) (λ y. each (value_on (own_scope t) users (row ∷ [])) xs >>= λ l. Ok (y ∷ l)) values e in
      let rest = bind_ok (each (value_on (own_scope t) users (row ∷ [])) xs) (λ l. Ok (first.0 ∷ l)) values first.2 in
      let part : Part = record { scope = own_scope t; term = x; expected = column_type t.layout c } in
      let fine = ok part (inl refl) in
      let kind = typed c (inl refl) in
      subst (λ vs. IsFitting (value_beside index (c ∷ cs) vs old)) (ok_inside (first.0 ∷ rest.0) values rest.2)
      (fitting_at c first.0 (value_beside index cs rest.0 old) (nat_eq index c) refl
      (λ same. subst (λ u. is_of u first.0 ≡ true) (sym (ap (column_type t.layout) same ∙ kind.1))
      (part_value users (row ∷ []) part kind.0 fine.0 fine.1 kind.1 (λ i. own_cells t row fit i.table i.column) first.0 first.1))
      (new_fits cs xs rest.0 (λ column h. typed column (inr h)) (λ p h. ok p (inr h)) rest.1 old was))

  new_cell_fits : (columns : List ℕ) (values : List Value) → ((old : Value) → IsFitting old → IsFitting (value_beside index columns values old)) → (o : Option Value) → slice_get row index ≡ o →
      IsFitting (value_at (replaced columns values row) index)
  new_cell_fits columns values fine None e =
      subst IsFitting (sym (value_there (replaced columns values row) index ∙ ap value_in (missing_stays columns values 0 row index e))) refl
  new_cell_fits columns values fine (Some old) e =
      subst IsFitting (sym (value_put columns values row index old e)) (fine old (subst IsFitting (value_there row index ∙ ap value_in e) (fit index)))

pub assigned_fits : (t : TableOf) (users : UserNames) (columns : List ℕ) (terms : List (Term ColumnName)) (bound : List (Term ColumnIndex)) (row new : Row) → RowFits t.layout.columns row →
    ((column : ℕ) → Among column columns → (k : ColumnType) × (column_type t.layout column ≡ Some k)) →
    ((p : Part) → Among p (value_parts (own_scope t) t.layout columns terms) → (u : Unit {0}) × (check_type p ≡ Ok u)) → each (resolved (own_scope t)) terms ≡ Ok bound →
    assigned users columns bound row ≡ Ok new → RowFits t.layout.columns new
assigned_fits t users columns terms bound row new fit typed ok found e =
    let steps = bind_ok (each (bound_value users (row ∷ [])) bound) (λ values. Ok (replaced columns values row)) new e in
    subst (λ r. RowFits t.layout.columns r) (ok_inside (replaced columns steps.0 row) new steps.2)
    (λ index. new_cell_fits t users row fit index columns steps.0
    (λ old was. new_fits t users row fit index columns terms steps.0 typed ok (sym (by_names (own_scope t) users (row ∷ []) terms bound found) ∙ steps.1) old was)
    (slice_get row index) refl)
