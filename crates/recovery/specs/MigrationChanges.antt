-- Changes that spell records of record format 1 in record format 2.
use Rattle.std.specs.Prelude.{◌≡◌, ◌≤◌, ◌<◌, List, [], ◌∷◌, length, Result, Ok, Err}
use Rattle.storage_sizes.specs.Sizes.{max_key_length, max_value_length}
use Rattle.storage_sizes.specs.declared.record_format.RecordFormat.{RecordFormat}
use Rattle.storage_sizes.specs.declared.record_format.RecordFormat.TheVariants.{V1, V2}
use Rattle.store.specs.Records.{Record, Records, Changes, applied}
use Rattle.store.specs.declared.fault.Fault.{Fault}
use Rattle.store.specs.declared.fault.Fault.TheVariants.{Memory, Device, Damaged}
use Rattle.abstract_database.specs.Database.{Database}
use Rattle.stored_database.specs.Records.{StandsFor}
use Rattle.stored_database.specs.BothRecordFormats.{with_place, with_places, in_record_format_2}

-- ---- one record

-- the record with a place in its key
abbrev pub with_its_place : Record → Record
with_its_place e = (with_place e.0, e.1)

-- each record, whatever it is
abbrev pub IsAnything : Record → Type 0
IsAnything e = Unit {0}

-- a store takes the record, and with a byte more in its key, too
pub record HasRoom (e : Record) : Type 0 where
  pub some : 1 ≤ length e.0
  pub few : length e.0 < max_key_length
  pub value : length e.1 ≤ max_value_length

-- ---- all records

-- the changes spell the records in record format 2, or they stand for no database
abbrev pub MigratesRecords : Result Changes Fault → Records → Type 0
MigratesRecords (Ok changes) records = applied changes records ≡ with_places records
MigratesRecords (Err Memory) records = Unit {0}
MigratesRecords (Err Device) records = Unit {0}
MigratesRecords (Err Damaged) records = (db : Database) → StandsFor (with_places records) db → ⊥

-- no list where the records are of record format 2; else one list, whose changes spell them in it
abbrev pub AreMigrating : RecordFormat → Records → List Changes → Type 0
AreMigrating V1 records lists = (changes : Changes) × (lists ≡ changes ∷ []) × (applied changes records ≡ with_places records)
AreMigrating V2 records lists = lists ≡ []

-- those lists, or the records stand for no database
abbrev pub MigratesRecordsFrom : RecordFormat → Result (List Changes) Fault → Records → Type 0
MigratesRecordsFrom record_format (Ok lists) records = AreMigrating record_format records lists
MigratesRecordsFrom record_format (Err Memory) records = Unit {0}
MigratesRecordsFrom record_format (Err Device) records = Unit {0}
MigratesRecordsFrom record_format (Err Damaged) records = (db : Database) → StandsFor (in_record_format_2 record_format records) db → ⊥
