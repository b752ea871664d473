-- What is read of a store before anything is committed.
use Rattle.std.specs.Prelude.{List, Result, Ok, Err}
use Rattle.store.specs.declared.fault.Fault.{Fault}
use Rattle.store.specs.declared.fault.Fault.TheVariants.{Memory, Device, Damaged}
use Rattle.store.specs.Records.{Changes}
use Rattle.store.specs.Store.{Contents}
use Rattle.abstract_database.specs.Database.{Database}
use Rattle.stored_database.specs.Definitions.{Definitions}
use Rattle.stored_database.specs.BothRecordFormats.{in_record_format_2, Stands}
use Rattle.recovery.specs.MigrationChanges.{AreMigrating}
use Rattle.recovery.specs.Openings.{AreOfDatabase}

-- the lists spell the contents in record format 2, in which they stand for a database with these definitions; Damaged
-- where they stand for none
abbrev pub AreRead : Contents → Result (List Changes × Definitions) Fault → Type 0
AreRead contents (Ok read) =
    AreMigrating contents.record_format contents.records read.0 × AreOfDatabase (in_record_format_2 contents.record_format contents.records) read.1
AreRead contents (Err Memory) = Unit {0}
AreRead contents (Err Device) = Unit {0}
AreRead contents (Err Damaged) = (db : Database) → Stands contents db → ⊥
