-- Ranges of keys, and the one that conditions leave of a table.
use Rattle.std.specs.Prelude.{◌≡◌, ℕ, Bool, true, false, ◌&&◌, ◌||◌, if◌then◌else◌, is_some, slice_get, List, [], ◌∷◌, ◌++◌, map, option_to_list, Option, Some, None, Ok}
use Rattle.std.specs.Borrow.{Bor}
use Rattle.std.specs.List.{list_any, AllByRecursion}
use Rattle.std.specs.declared.cmp.Ordering.TheVariants.{Less}
use Rattle.std.specs.Ordering.{is_eq}
use Rattle.sql_types.specs.declared.value.Value.{Value}
use Rattle.sql_types.specs.Row.{Row, value_at}
use Rattle.sql_ast.specs.Layout.{Layout}
use Rattle.sql_ast.specs.Fits.{FitsTable}
use Rattle.sql_ast.specs.declared.scope.ColumnIndex.{ColumnIndex}
use Rattle.expressions.specs.Truths.{true_value}
use Rattle.expressions.specs.Meaning.{UserNames, value_of}
use Rattle.expressions.specs.Types.{TypedTerm}
use Rattle.abstract_database.specs.Expressions.{all_of}
use Rattle.store.specs.Records.{Records, key_cmp, entries_where, entry_at, is_from, has_prefix}
use Rattle.store.specs.Walks.{is_within, span}
use Rattle.row_codec.specs.Cells.{key_cell}
use Rattle.row_codec.specs.Rows.{row_prefix}
use Rattle.stored_database.specs.RecordFormat.{row_record}
use Rattle.key_ranges.specs.declared.bounds.BoundKind.TheVariants as kind
use Rattle.key_ranges.specs.declared.range.KeyRange.{KeyRange}
use Rattle.key_ranges.specs.declared.range.KeyRange.TheVariants.{Point, Span, Several}
use Rattle.key_ranges.specs.declared.spans.KeySpan.{KeySpan}
use Rattle.key_ranges.specs.Spans.{is_in_spans}
use Rattle.key_ranges.specs.Bounds.{Bounds, bounds_of}
use Rattle.key_ranges.specs.Infallible.{are_infallible}

-- ---- what a range is

-- whether a key is in a range
abbrev pub is_in : KeyRange → List ℕ → Bool
is_in (Point point) key = is_eq (key_cmp key point)
is_in (Span start stop) key = is_from start key && is_within stop key
is_in (Several several) key = is_in_spans several.spans key

-- what a look-up, or a walk, finds of a range
abbrev pub records_in : KeyRange → Records → Records
records_in (Point point) records = option_to_list (entry_at point records)
records_in (Span start stop) records = span start stop records
records_in (Several several) records = entries_where (is_in_spans several.spans) records

-- whether the record of a row has a key in a range
abbrev pub is_inside : ℕ → Layout → KeyRange → Row → Bool
is_inside id layout range row = is_in range (row_record id layout row).0

-- whether a key is in one of several ranges
abbrev pub is_in_any : List KeyRange → List ℕ → Bool
is_in_any ranges key = list_any (λ range. is_in range key) ranges

-- whether the record of a row has a key in one of several ranges
abbrev pub is_inside_any : ℕ → Layout → List KeyRange → Row → Bool
is_inside_any id layout ranges row = is_in_any ranges (row_record id layout row).0

-- the keys of one range come before those of another
abbrev pub ComesBefore : KeyRange → KeyRange → Type 0
ComesBefore first second = (k l : List ℕ) → is_in first k ≡ true → is_in second l ≡ true → key_cmp k l ≡ Less

-- ranges in the order of their keys: no two have a key in common
abbrev pub AreInOrder : List KeyRange → Type 0
AreInOrder [] = Unit {0}
AreInOrder (range ∷ ranges) = AllByRecursion (ComesBefore range) ranges × AreInOrder ranges

-- a span of keys of the table of this number alone
abbrev pub IsSpanOf : ℕ → KeySpan → Type 0
IsSpanOf id s = (has_prefix (row_prefix id) s.start ≡ true) × (has_prefix (row_prefix id) s.stop ≡ true)

-- keys of the table of this number alone
abbrev pub IsRangeOf : ℕ → KeyRange → Type 0
IsRangeOf id (Point point) = has_prefix (row_prefix id) point ≡ true
IsRangeOf id (Span start stop) = (has_prefix (row_prefix id) start ≡ true) × (has_prefix (row_prefix id) stop ≡ true)
IsRangeOf id (Several several) = AllByRecursion (IsSpanOf id) several.spans

-- the range has the key of each row that the table may hold and on which all conditions are true, whatever the rows beside it are
abbrev pub HasKeysOf : ℕ → Layout → ℕ → UserNames → List TypedTerm → KeyRange → Type 0
HasKeysOf id layout table users conditions range = (row : Row) (cell : ColumnIndex → Value) → FitsTable layout row
    → ((index : ℕ) → cell (record { table = table; column = index }) ≡ value_at row index)
    → all_of (map (λ c. value_of cell users c.term) conditions) ≡ Ok true_value → is_inside id layout range row ≡ true

-- the rows of the first tables are these
abbrev pub IsBehind : List (Bor Row) → (ColumnIndex → Value) → Type 0
IsBehind front cell = (index : ColumnIndex) (row : Bor Row) → slice_get front index.table ≡ Some row → cell index ≡ value_at row.now index.column

-- the range has the key of each row that the table behind the first ones may hold and on which all conditions are true beside these rows of the first ones
abbrev pub HasKeysBehind : ℕ → Layout → ℕ → List (Bor Row) → UserNames → List TypedTerm → KeyRange → Type 0
HasKeysBehind id layout table front users conditions range = (row : Row) (cell : ColumnIndex → Value) → FitsTable layout row
    → ((index : ℕ) → cell (record { table = table; column = index }) ≡ value_at row index) → IsBehind front cell
    → all_of (map (λ c. value_of cell users c.term) conditions) ≡ Ok true_value → is_inside id layout range row ≡ true

-- ---- the range that conditions leave

-- the cell of a bound, if there is one
abbrev pub cell_of : Option Value → List ℕ
cell_of None = []
cell_of (Some v) = key_cell v

-- the keys that begin with these bytes and go on between the bounds of a column: both bounds are inside
abbrev pub span_after : Bounds → ℕ → List ℕ → KeyRange
span_after bounds index front = Span (front ++ cell_of (bounds kind.Lower index)) (front ++ cell_of (bounds kind.Upper index))

-- one range where there is a value, and another where there is none
abbrev pub by_value : Option Value → (Value → KeyRange) → KeyRange → KeyRange
by_value None of_value other = other
by_value (Some v) of_value other = of_value v

-- the keys that begin with these bytes and whose next columns are these
abbrev pub range_after : Bounds → List ℕ → List ℕ → KeyRange
range_after bounds [] front = Point front
range_after bounds (index ∷ indices) front = by_value (bounds kind.Equal index) (λ v. range_after bounds indices (front ++ key_cell v)) (span_after bounds index front)

abbrev pub is_bounded : Bounds → ℕ → Bool
is_bounded bounds index = is_some (bounds kind.Equal index) || (is_some (bounds kind.Lower index) || is_some (bounds kind.Upper index))

abbrev pub is_first_bounded : Bounds → List ℕ → Bool
is_first_bounded bounds [] = false
is_first_bounded bounds (index ∷ indices) = is_bounded bounds index

-- the range of a table, the one of this index in FROM, beside these rows of the first tables: where no condition can fail, and the first column of the key has a bound
abbrev pub range_behind : ℕ → Layout → ℕ → List (Bor Row) → UserNames → List TypedTerm → Option KeyRange
range_behind id layout table front users conditions =
    if are_infallible conditions && is_first_bounded (bounds_of table users front conditions) layout.key
    then Some (range_after (bounds_of table users front conditions) layout.key (row_prefix id)) else None

-- the range of a table beside any rows
abbrev pub range_of : ℕ → Layout → ℕ → UserNames → List TypedTerm → Option KeyRange
range_of id layout table users conditions = range_behind id layout table [] users conditions
