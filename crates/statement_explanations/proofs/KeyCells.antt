-- The cells of a key, one after another: what they spell where the first of them is read, and where none is.
use Rattle.std.proofs.Common.{◌≡◌, ℕ, Bool, true, false, nat_eq, List, [], ◌∷◌, ◌++◌, length, Option, Some, None, sym, ap, subst, ◌∙◌, append_assoc, arith}
use Rattle.std.proofs.lemmas.Bool.{false≢true}
use Rattle.std.specs.Prelude.{slice_get}
use Rattle.sql_types.specs.declared.value.Value.{Value}
use Rattle.sql_types.specs.Row.{Row}
use Rattle.sql_ast.specs.declared.columns.Column.{Column}
use Rattle.sql_ast.specs.Fits.{IsOfType}
use Rattle.row_codec.specs.Cells.{key_cell}
use Rattle.row_codec.specs.Rows.{key_bytes}
use Rattle.statement_explanations.specs.Keys.{AddsCells, AreOfColumns, IsOfColumn}

no_cells : (cells : List ℕ) → false ≡ nat_eq (length cells) 0 → cells ≡ [] → ⊥
no_cells cells some none = false≢true (some ∙ ap (λ (bytes : List ℕ). nat_eq (length bytes) 0) none)

module _ (columns : List Column) (cells : List ℕ) (some : false ≡ nat_eq (length cells) 0) where
  -- cells spell no values of no columns
  pub no_index : (key : List ℕ) → length key ≡ 0 → (more : Row) → AreOfColumns columns key more → cells ≡ key_bytes more → ⊥
  no_index [] none [] are is = no_cells cells some is
  no_index [] none (v ∷ more) are is = are
  no_index (index ∷ key) none more are is = absurd (omega (arith, none))

  -- nor of one that is not there
  pub no_column : (first : ℕ) (others : List ℕ) → None ≡ slice_get columns first → (more : Row) → AreOfColumns columns (first ∷ others) more → cells ≡ key_bytes more → ⊥
  no_column first others none [] are is = no_cells cells some is
  no_column first others none (v ∷ more) are is = subst (λ (c : Option Column). IsOfColumn c v) (sym none) are.0

  module _ (first : ℕ) (others : List ℕ) (column : Column) (at : Some column ≡ slice_get columns first) where
    -- nor of one of which they begin with no value
    pub no_value : ((v : Value) (rest : List ℕ) → IsOfType column.column_type v → cells ≡ key_cell v ++ rest → ⊥) → (more : Row) → AreOfColumns columns (first ∷ others) more → cells ≡ key_bytes more → ⊥
    no_value only [] are is = no_cells cells some is
    no_value only (v ∷ more) are is = only v (key_bytes more) (subst (λ (c : Option Column). IsOfColumn c v) (sym at) are.0) is

    none_more : (v : Value) (rest : List ℕ) → ((w : Value) (other : List ℕ) → IsOfType column.column_type w → cells ≡ key_cell w ++ other → (v ≡ w) × (rest ≡ other))
        → ((more : Row) → AreOfColumns columns others more → rest ≡ key_bytes more → ⊥) → (more : Row) → AreOfColumns columns (first ∷ others) more → cells ≡ key_bytes more → ⊥
    none_more v rest only none [] are is = no_cells cells some is
    none_more v rest only none (w ∷ more) are is = none more are.1 (only w (key_bytes more) (subst (λ (c : Option Column). IsOfColumn c w) (sym at) are.0) is).1

    -- behind the value that they begin with they spell what the rest spells
    pub one_more : (v : Value) (rest : List ℕ) (before middle after : Row) (whole : Bool) → IsOfType column.column_type v → cells ≡ key_cell v ++ rest
        → ((w : Value) (other : List ℕ) → IsOfType column.column_type w → cells ≡ key_cell w ++ other → (v ≡ w) × (rest ≡ other)) → middle ≡ before ++ v ∷ []
        → AddsCells columns others middle rest whole after → AddsCells columns (first ∷ others) before cells whole after
    one_more v rest before middle after true typed spelled only pushed h = (
      v ∷ h.0,
      h.1 ∙ ap (λ (values : Row). values ++ h.0) pushed ∙ append_assoc before (v ∷ []) h.0,
      (subst (λ (c : Option Column). IsOfColumn c v) at typed, h.2),
      spelled ∙ ap (λ (bytes : List ℕ). key_cell v ++ bytes) h.3,
    )
    one_more v rest before middle after false typed spelled only pushed h = none_more v rest only h
