-- The values of the first columns of a key that bytes spell.
use Rattle.std.specs.Prelude.{◌≡◌, ℕ, Bool, true, false, Option, Some, None, List, [], ◌∷◌, ◌++◌, slice_get}
use Rattle.sql_types.specs.declared.value.Value.{Value}
use Rattle.sql_types.specs.Row.{Row}
use Rattle.sql_ast.specs.declared.columns.Column.{Column}
use Rattle.sql_ast.specs.Fits.{IsOfType}
use Rattle.sql_ast.specs.Layout.{Layout}
use Rattle.row_codec.specs.Rows.{key_bytes, row_prefix}

-- there is a column, and the value is of its type
abbrev pub IsOfColumn : Option Column → Value → Type 0
IsOfColumn None v = ⊥
IsOfColumn (Some column) v = IsOfType column.column_type v

-- each value is of the type of the column of this index in its place; there may be more indices
abbrev pub AreOfColumns : List Column → List ℕ → Row → Type 0
AreOfColumns columns key [] = Unit {0}
AreOfColumns columns [] (v ∷ values) = ⊥
AreOfColumns columns (index ∷ key) (v ∷ values) = IsOfColumn (slice_get columns index) v × AreOfColumns columns key values

-- behind values stand those of these columns that the cells spell; or the cells spell none
abbrev pub AddsCells : List Column → List ℕ → Row → List ℕ → Bool → Row → Type 0
AddsCells columns key before cells true after = (more : Row) × (after ≡ before ++ more) × AreOfColumns columns key more × (cells ≡ key_bytes more)
AddsCells columns key before cells false after = (more : Row) → AreOfColumns columns key more → cells ≡ key_bytes more → ⊥

-- these are the values of the first columns of a key of the table of this number that the bytes spell; or they spell none
abbrev pub AreKeyValues : ℕ → Layout → List ℕ → Option Row → Type 0
AreKeyValues id layout bytes None = (values : Row) → AreOfColumns layout.columns layout.key values → bytes ≡ row_prefix id ++ key_bytes values → ⊥
AreKeyValues id layout bytes (Some values) = AreOfColumns layout.columns layout.key values × (bytes ≡ row_prefix id ++ key_bytes values)
