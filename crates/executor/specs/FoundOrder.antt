-- In which order the rows of a target are found.
use Rattle.std.specs.Prelude.{◌≡◌, ℕ, true, IsTrue, List, ◌++◌, map, length, Option, Some, None}
use Rattle.std.specs.Borrow.{Bor}
use Rattle.std.specs.List.{list_all}
use Rattle.sql_types.specs.Value.{owned}
use Rattle.sql_types.specs.Row.{Row, value_at}
use Rattle.sql_ast.specs.declared.columns.ColumnType.{ColumnType}
use Rattle.sql_ast.specs.Fits.{IsOfType, FitsColumns, FitsTable}
use Rattle.sql_ast.specs.Layout.{Layout, is_not_null_at}
use Rattle.sql_ast.specs.Rows.{row_cmp}
use Rattle.row_codec.specs.Cells.{key_cell}
use Rattle.row_codec.specs.Rows.{key_bytes}
use Rattle.key_ranges.specs.declared.range.KeyRange.{KeyRange}
use Rattle.key_ranges.specs.declared.range.KeyRange.TheVariants.{Span}
use Rattle.key_ranges.specs.Ranges.{is_in, is_inside}
use Rattle.table_rows.specs.declared.target.Target.{Target}
use Rattle.executor.specs.declared.found_order.SharedCell.{SharedCell}

-- ---- rows that a target may find

-- the key of the row is in the range, if there is one
abbrev pub IsInsideIfAny : ℕ → Layout → Option (Bor KeyRange) → Row → Type 0
IsInsideIfAny id layout None row = Unit {0}
IsInsideIfAny id layout (Some range) row = is_inside id layout range.now row ≡ true

-- a row that the table may hold, whose key is in the range of the target, if it has one
pub record MayBeFound (table : Target) (row : Row) : Type 0 where
  pub fits : FitsTable table.columns.now row
  pub inside : IsInsideIfAny table.id table.columns.now table.range row

-- the keys of the rows that the target may find are between these
abbrev pub IsInside : Target → List ℕ → List ℕ → Type 0
IsInside table start stop = (row : Row) → MayBeFound table row → is_inside table.id table.columns.now (Span start stop) row ≡ true

-- rows that the target may find compare by these columns as by the key
abbrev pub IsOrderOf : Target → List ℕ → Type 0
IsOrderOf table columns = (a b : Row) → MayBeFound table a → MayBeFound table b → row_cmp table.columns.now.key a b ≡ row_cmp columns a b

-- ---- columns that are the same in all rows of a span

-- both of these begin with the same five bytes, as keys of one table do, and go on with those
pub record HaveOnePrefix (start stop start_rest stop_rest : List ℕ) : Type 0 where
  pub prefix : List ℕ
  pub long : length prefix ≡ 5
  pub in_start : start ≡ prefix ++ start_rest
  pub in_stop : stop ≡ prefix ++ stop_rest

-- both of these begin with this cell of a value of this type, and go on as it says
pub record BeginAlike (kind : ColumnType) (start stop : List ℕ) (cell : SharedCell) : Type 0 where
  pub of_type : IsOfType kind (owned cell.value)
  pub in_start : start ≡ key_cell (owned cell.value) ++ cell.start.now
  pub in_stop : stop ≡ key_cell (owned cell.value) ++ cell.stop.now

-- behind these first bytes the columns of a row's key go on between start and stop
pub record GoesOnBetween (layout : Layout) (front start stop key : List ℕ) (row : Row) : Type 0 where
  pub fits : FitsColumns layout.columns row
  pub between : is_in (Span (front ++ start) (front ++ stop)) (front ++ key_bytes (map (value_at row) key)) ≡ true

-- rows whose columns of the key go on between start and stop compare by the others of these columns as by all of them
abbrev pub ComparesAs : Layout → List ℕ → List ℕ → List ℕ → List ℕ → Type 0
ComparesAs layout start stop key others = (front : List ℕ) (a b : Row) → IsTrue (list_all (is_not_null_at layout.columns) key) → GoesOnBetween layout front start stop key a → GoesOnBetween layout front start stop key b
    → row_cmp key a b ≡ row_cmp others a b
