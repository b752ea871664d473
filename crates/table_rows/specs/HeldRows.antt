-- The rows of a table that the records of a map hold.
use Rattle.std.specs.Prelude.{◌≡◌, ℕ, List, map, drop, true}
use Rattle.std.specs.List.{AllByRecursion}
use Rattle.sql_types.specs.Row.{Row}
use Rattle.sql_ast.specs.Layout.{Layout}
use Rattle.sql_ast.specs.Fits.{FitsTable}
use Rattle.store.specs.Records.{Record, Records, Changes, has_prefix}
use Rattle.store.specs.Items.{Holds}
use Rattle.abstract_database.specs.Whole.{Each}
use Rattle.row_codec.specs.Rows.{row_prefix, Spells}
use Rattle.stored_database.specs.RecordFormat.{row_record}

-- the records of the table of this number are those of these rows, which a table of these columns may hold
pub record HoldsRows (id : ℕ) (layout : Layout) (records : Records) (rows : List Row) : Type 0 where
  pub held : Holds records (row_prefix id) (row_record id layout) rows
  pub fit : Each (FitsTable layout) rows

-- the records are those of these rows, which a table of these columns may hold, in this order
pub record AreRecordsOf (id : ℕ) (layout : Layout) (rows : List Row) (records : Records) : Type 0 where
  pub are : records ≡ map (row_record id layout) rows
  pub fit : Each (FitsTable layout) rows

-- the record spells a row that a table of these columns may hold, after the five bytes that are the prefix of its table
abbrev pub SpellsRow : Layout → Record → Type 0
SpellsRow layout e = (row : Row) × Spells layout (drop 5 e.0) e.1 row

-- the changes are those of records of rows of this table, and of no others
abbrev pub ConcernRowsOf : ℕ → Changes → Type 0
ConcernRowsOf id changes = AllByRecursion (λ c. has_prefix (row_prefix id) c.0 ≡ true) changes
