-- Which values a column may hold, and which rows a table.
use Rattle.std.specs.Prelude.{◌≡◌, ℕ, false, Option, Some, None, List, length, slice_get, FitsSigned}
use Rattle.std.specs.Int.{w64}
use Rattle.sql_types.specs.declared.value.Value.{Value}
use Rattle.sql_types.specs.declared.value.Value.TheVariants.{Null, Int, Text, Bool as Boolean}
use Rattle.sql_types.specs.Domain.{IsText}
use Rattle.sql_types.specs.Row.{Row, value_at}
use Rattle.sql_ast.specs.declared.columns.Column.{Column}
use Rattle.sql_ast.specs.declared.columns.ColumnType.{ColumnType}
use Rattle.sql_ast.specs.declared.columns.ColumnType.TheVariants as type
use Rattle.sql_ast.specs.Layout.{Layout}
use Rattle.sql_ast.specs.Rows.{KeepsLimits}

-- the value, which is not null, is of the type
abbrev pub IsOfType : ColumnType → Value → Type 0
IsOfType type.BigInt (Int z) = FitsSigned w64 z
IsOfType type.Text (Text t) = IsText t
IsOfType type.Boolean (Boolean b) = Unit {0}
IsOfType _ _ = ⊥

-- the column may hold the value: null where it is not NOT NULL, or a value of its type
abbrev pub FitsColumn : Column → Value → Type 0
FitsColumn column Null = column.not_null ≡ false
FitsColumn column value = IsOfType column.column_type value

-- where there is a column, it may hold the value
abbrev pub FitsColumnIfAny : Option Column → Value → Type 0
FitsColumnIfAny None value = Unit {0}
FitsColumnIfAny (Some column) value = FitsColumn column value

-- the row has a value for each column, which the column may hold
pub record FitsColumns (columns : List Column) (row : Row) : Type 0 where
  pub width : length row ≡ length columns
  pub each : (index : ℕ) → FitsColumnIfAny (slice_get columns index) (value_at row index)

-- a table of these columns may hold the row
pub record FitsTable (layout : Layout) (row : Row) : Type 0 where
  pub columns : FitsColumns layout.columns row
  pub limits : KeepsLimits layout row
