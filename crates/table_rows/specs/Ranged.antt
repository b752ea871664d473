-- The rows of a target: those of its table, or of those alone whose keys are in a range.
use Rattle.std.specs.Prelude.{◌≡◌, ℕ, false, List, filter, Option, Some, None}
use Rattle.std.specs.Borrow.{Bor}
use Rattle.std.specs.List.{AllByRecursion}
use Rattle.sql_types.specs.Row.{Row}
use Rattle.sql_ast.specs.Layout.{Layout}
use Rattle.sql_ast.specs.Fits.{FitsTable}
use Rattle.expressions.specs.Meaning.{UserNames}
use Rattle.expressions.specs.Types.{TypedTerm}
use Rattle.store.specs.Records.{Records, entries_where, has_prefix}
use Rattle.abstract_database.specs.Guards.{Guard}
use Rattle.row_codec.specs.Rows.{row_prefix}
use Rattle.key_ranges.specs.declared.range.KeyRange.{KeyRange}
use Rattle.key_ranges.specs.Ranges.{records_in, is_inside, IsRangeOf}
use Rattle.key_ranges.specs.LeftOut.{MayBeLeftUnchanged}
use Rattle.table_rows.specs.declared.target.Target.{Target}
use Rattle.table_rows.specs.HeldRows.{AreRecordsOf, SpellsRow}
use Rattle.table_rows.specs.Targets.{users_of, sees, condition_in}

-- ---- what a walk over a target finds

-- the records of the table of this number, or of a range of its keys
abbrev pub records_found : ℕ → Option (Bor KeyRange) → Records → Records
records_found id None records = entries_where (has_prefix (row_prefix id)) records
records_found id (Some range) records = records_in range.now records

abbrev pub records_of : Target → Records → Records
records_of target records = records_found target.id target.range records

-- of the rows of a table those whose keys are in the range, if there is one
abbrev pub rows_found : ℕ → Layout → Option (Bor KeyRange) → List Row → List Row
rows_found id layout None rows = rows
rows_found id layout (Some range) rows = filter (is_inside id layout range.now) rows

abbrev pub rows_of : Target → List Row → List Row
rows_of target rows = rows_found target.id target.columns.now target.range rows

-- the records that are found are those of these rows, which the table may hold, in this order
abbrev pub FindsRows : Target → Records → List Row → Type 0
FindsRows target records rows = AreRecordsOf target.id target.columns.now rows (records_of target records)

-- each record that is found spells a row
abbrev pub FindsSpelled : Target → Records → Type 0
FindsSpelled target records = AllByRecursion (SpellsRow target.columns.now) (records_of target records)

-- the records that are found are those of no rows: one of them is damaged
abbrev pub FindsDamage : Target → Records → Type 0
FindsDamage target records = (rows : List Row) → FindsRows target records rows → ⊥

-- ---- ranges that change no answer

-- the range, if there is one, has keys of the table of this number alone
abbrev pub IsOfTable : ℕ → Option (Bor KeyRange) → Type 0
IsOfTable id None = Unit {0}
IsOfTable id (Some range) = IsRangeOf id range.now

-- the range, if there is one, has the keys of all rows that the guard lets pass and on which the condition is true: on each other row the guard has a value, and where this is true, the condition has one that is not
abbrev pub HasAllChosen : ℕ → Layout → UserNames → Guard → Option (Bor TypedTerm) → Option (Bor KeyRange) → Type 0
HasAllChosen id layout users guard condition None = Unit {0}
HasAllChosen id layout users guard condition (Some range) = (row : Row) → FitsTable layout row → is_inside id layout range.now row ≡ false → MayBeLeftUnchanged users guard (condition_in condition) row

-- the range of the target, if there is one, is of its table, and an UPDATE or a DELETE with this condition concerns no row outside it
pub record LosesNothing (target : Target) (condition : Option (Bor TypedTerm)) : Type 0 where
  pub of_table : IsOfTable target.id target.range
  pub all_chosen : HasAllChosen target.id target.columns.now (users_of target) (sees target) condition target.range
