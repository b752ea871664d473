-- What a check of the rows of a database answers.
use Rattle.std.specs.Prelude.{◌≡◌, List, Result, Ok, Err}
use Rattle.store.specs.declared.fault.Fault.{Fault}
use Rattle.store.specs.declared.fault.Fault.TheVariants.{Memory, Device, Damaged}
use Rattle.store.specs.Records.{Records}
use Rattle.abstract_database.specs.Database.{Database}
use Rattle.abstract_database.specs.Whole.{Each}
use Rattle.row_codec.specs.Rows.{row_prefix}
use Rattle.stored_database.specs.Definitions.{TableDefinition, Definitions}
use Rattle.stored_database.specs.Records.{Shows, StandsFor}
use Rattle.catalogue_loading.specs.RecordChecks.{AllPass, IsRowRecord}

-- each record of a row of the table is that of a row which the table may hold
abbrev pub HasOnlyRows : Records → TableDefinition → Type 0
HasOnlyRows records t = AllPass (IsRowRecord t.id t.definition.layout) records (row_prefix t.id)

-- so it is for each of the tables, or Damaged where it is not
abbrev pub ChecksTables : Result (Unit {0}) Fault → Records → List TableDefinition → Type 0
ChecksTables (Ok x) records tables = Each (HasOnlyRows records) tables
ChecksTables (Err Memory) records tables = Unit {0}
ChecksTables (Err Device) records tables = Unit {0}
ChecksTables (Err Damaged) records tables = Each (HasOnlyRows records) tables → ⊥

-- the records, which define these definitions, show a database, or Damaged where they stand for none
abbrev pub ChecksRows : Result (Unit {0}) Fault → Records → Definitions → Type 0
ChecksRows (Ok x) records d = (db : Database) × Shows records d db
ChecksRows (Err Memory) records d = Unit {0}
ChecksRows (Err Device) records d = Unit {0}
ChecksRows (Err Damaged) records d = (db : Database) → StandsFor records db → ⊥

-- the records show a database with these definitions, and stand for no other
pub record StandForOne (records : Records) (d : Definitions) : Type 0 where
  pub database : Database
  pub shown : Shows records d database
  pub one : (other : Database) → StandsFor records other → database ≡ other
