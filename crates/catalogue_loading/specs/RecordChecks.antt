-- What a check of many records answers.
use Rattle.std.specs.Prelude.{◌≡◌, ℕ, Bool, true, false, List, ◌∷◌, [], Result, Ok, Err}
use Rattle.store.specs.declared.fault.Fault.{Fault}
use Rattle.store.specs.declared.fault.Fault.TheVariants.{Memory, Device, Damaged}
use Rattle.store.specs.Records.{Record, Records, entries_where, has_prefix}
use Rattle.sql_types.specs.Row.{Row}
use Rattle.sql_ast.specs.Fits.{FitsTable}
use Rattle.sql_ast.specs.Layout.{Layout}
use Rattle.abstract_database.specs.Whole.{Each}
use Rattle.stored_database.specs.RecordFormat.{row_record}
use Rattle.stored_database.specs.Records.{is_orphan, is_orphan_row}
use Rattle.catalogue_loading.specs.Decoding.{IsSpelled}

-- the first of these records is as it is to be, and the others are ahead then
pub record GoesPast (Passes : Record → Type 0) (ahead : Records → Type 0) (records : Records) : Type 0 where
  pub entry : Record
  pub later : Records
  pub first : records ≡ entry ∷ later
  pub passes : Passes entry
  pub is_ahead : ahead later

-- the first of these records is not
pub record FailsAt (Passes : Record → Type 0) (records : Records) : Type 0 where
  pub entry : Record
  pub later : Records
  pub first : records ≡ entry ∷ later
  pub fails : Passes entry → ⊥

-- a step of a check of these records
abbrev pub Tests : (Record → Type 0) → (Records → Type 0) → Result Bool Fault → Records → Type 0
Tests Passes ahead (Ok false) records = records ≡ []
Tests Passes ahead (Ok true) records = GoesPast Passes ahead records
Tests Passes ahead (Err Memory) records = Unit {0}
Tests Passes ahead (Err Device) records = Unit {0}
Tests Passes ahead (Err Damaged) records = FailsAt Passes records

-- each record with the prefix is as it is to be
abbrev pub AllPass : (Record → Type 0) → Records → List ℕ → Type 0
AllPass Passes records prefix = Each Passes (entries_where (has_prefix prefix) records)

-- the records with a prefix are all as they are to be, or Damaged where one is not
abbrev pub ChecksRecords : (Record → Type 0) → Records → List ℕ → Result (Unit {0}) Fault → Type 0
ChecksRecords Passes records prefix (Ok x) = AllPass Passes records prefix
ChecksRecords Passes records prefix (Err Memory) = Unit {0}
ChecksRecords Passes records prefix (Err Device) = Unit {0}
ChecksRecords Passes records prefix (Err Damaged) = AllPass Passes records prefix → ⊥

-- the record is that of a row which the table of this number may hold
abbrev pub IsRowRecord : ℕ → Layout → Record → Type 0
IsRowRecord id layout e = (row : Row) × IsSpelled (FitsTable layout) (row_record id layout) e row

-- the record is of a kind, and where it is a descriptor or a policy, of a table of one of these numbers
abbrev pub IsNoOrphan : List ℕ → Record → Type 0
IsNoOrphan ids e = is_orphan ids e.0 ≡ false

-- the record is no row's, or that of a row of a table of one of these numbers
abbrev pub IsNoOrphanRow : List ℕ → Record → Type 0
IsNoOrphanRow ids e = is_orphan_row ids e.0 ≡ false
