-- What the changes of an INSERT, an UPDATE or a DELETE make of the records of a table.
use Rattle.std.specs.Prelude.{◌≡◌, ℕ, Bool, true, false, List, [], ◌∷◌, map, flat_map, Option, Some, None, is_some}
use Rattle.std.specs.List.{list_any}
use Rattle.std.specs.Ordering.{is_eq}
use Rattle.sql_types.specs.Row.{Row}
use Rattle.sql_ast.specs.Layout.{Layout, IsLayout}
use Rattle.sql_ast.specs.Rows.{row_cmp}
use Rattle.sql_ast.specs.Fits.{FitsTable}
use Rattle.store.specs.Records.{Records, Changes, IsOrdered, applied, changed, entries_where, has_prefix, lookup}
use Rattle.abstract_database.specs.Changes.{Chosen, new_rows, other_rows, with_rows}
use Rattle.abstract_database.specs.Whole.{Each, AreWholeRows}
use Rattle.row_codec.specs.Rows.{row_prefix}
use Rattle.stored_database.specs.RecordFormat.{row_record}
use Rattle.table_rows.specs.HeldRows.{HoldsRows, ConcernRowsOf}

-- the records without these keys
abbrev pub without_keys : List (List ℕ) → Records → Records
without_keys [] es = es
without_keys (k ∷ ks) es = without_keys ks (changed k None es)

-- the records with these put among them, one after the other
abbrev pub with_records : Records → Records → Records
with_records [] es = es
with_records (r ∷ rs) es = with_records rs (changed r.0 (Some r.1) es)

-- the key of a row, as it was, where the row is chosen
abbrev pub old_key : ℕ → Layout → Chosen → List (List ℕ)
old_key id layout c = key_where c.new where
  key_where : Option Row → List (List ℕ)
  key_where None = []
  key_where (Some new) = (row_record id layout c.row).0 ∷ []

-- the keys of the rows that are chosen, as they were
abbrev pub old_keys : ℕ → Layout → List Chosen → List (List ℕ)
old_keys id layout chosen = flat_map (old_key id layout) chosen

-- where all old keys are removed and then all new rows are put, the records hold the rows of the definition
abbrev pub UpdateIsHeld : Type 0
UpdateIsHeld = (id : ℕ) (layout : Layout) (records : Records) (chosen : List Chosen) → IsLayout layout → IsOrdered records
    → HoldsRows id layout records (map (λ c. c.row) chosen) → Each (FitsTable layout) (new_rows chosen)
    → HoldsRows id layout (with_records (map (row_record id layout) (new_rows chosen)) (without_keys (old_keys id layout chosen) records))
    (with_rows layout.key (new_rows chosen) (other_rows chosen))

-- the key of a row is there in the records where one of the rows has it
abbrev pub KeyIsFound : Type 0
KeyIsFound = (id : ℕ) (layout : Layout) (records : Records) (row : Row) (rows : List Row) → IsLayout layout → FitsTable layout row
    → HoldsRows id layout records rows
    → is_some (lookup (row_record id layout row).0 records) ≡ list_any (λ other. is_eq (row_cmp layout.key row other)) rows

-- changes of a table's rows leave the records that are no rows of it
abbrev pub OtherRecordsStay : Type 0
OtherRecordsStay = (id : ℕ) (changes : Changes) (records : Records) (test : List ℕ → Bool) → IsOrdered records → ConcernRowsOf id changes
    → ((key : List ℕ) → has_prefix (row_prefix id) key ≡ true → test key ≡ false)
    → entries_where test (applied changes records) ≡ entries_where test records

-- rows that ordered records hold stand in the order of their keys, no two with one key
abbrev pub HeldRowsAreWhole : Type 0
HeldRowsAreWhole = (id : ℕ) (layout : Layout) (records : Records) (rows : List Row) → IsLayout layout → IsOrdered records
    → HoldsRows id layout records rows → AreWholeRows layout rows
