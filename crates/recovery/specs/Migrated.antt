-- What a migration comes to: the store is of record format 2, or as it was.
use Rattle.std.specs.Prelude.{◌≡◌, ◌⊎◌, ◌≤◌, ◌+◌, Bool, Option, Result, Ok, Err}
use Rattle.sector_device.specs.Timeline.{LeavesOnly}
use Rattle.storage_sizes.specs.declared.record_format.RecordFormat.TheVariants.{V1, V2}
use Rattle.store.specs.declared.fault.Fault.TheVariants as read
use Rattle.store.specs.declared.fault.StoreFault.TheVariants as commit
use Rattle.store.specs.Readers.{failed_after_reads}
use Rattle.store.specs.Store.{StoreState, Contents, stored, HasCause, HasDeviceCause, IsUnchanged, failed_after}
use Rattle.abstract_database.specs.Database.{Database}
use Rattle.stored_database.specs.BothRecordFormats.{in_record_format_2, Stands, Means}
use Rattle.recovery.specs.declared.fault.OpeningFault.{OpeningFault}
use Rattle.recovery.specs.declared.fault.OpeningFault.TheVariants.{Read, Commit}

-- the same records, all of record format 2
abbrev pub in_second : Contents → Contents
in_second contents = record { record_format = V2; records = in_record_format_2 contents.record_format contents.records }

-- ---- faults

-- whether a store has failed after this answer: an answer Device stays, and no other sets it
abbrev pub failed_after_opening : Result (Unit {0}) OpeningFault → Bool → Bool
failed_after_opening (Ok x) had_failed = had_failed
failed_after_opening (Err (Read fault)) had_failed = failed_after_reads {T = Unit {0}} (Err fault) had_failed
failed_after_opening (Err (Commit fault)) had_failed = failed_after {T = Unit {0}} (Err fault) had_failed

-- why an opening answers a fault: an allocation may always fail, and a commit is only tried in record format 1
abbrev pub HasOpeningCause : OpeningFault → StoreState → StoreState → Type 0
HasOpeningCause (Read read.Memory) old new = Unit {0}
HasOpeningCause (Read read.Device) old new = HasDeviceCause old new
HasOpeningCause (Read read.Damaged) old new = (db : Database) → Stands (stored old) db → ⊥
HasOpeningCause (Commit fault) old new = (old.record_format ≡ V1) × HasCause fault old new

-- ---- what is left

-- a stop leaves this database, at every moment and now; the number rises by one at most
pub record KeepsDatabase (db : Database) (result : Result (Unit {0}) OpeningFault) (old new : StoreState) : Type 0 where
  pub during : LeavesOnly (λ x. Means x db) old.time new.time
  pub now : (x : Option Contents) → new.time.left x → Means x db
  pub number : (result ≡ Err (Commit commit.Device)) ⊎ (new.number ≤ old.number + 1)

-- what is there afterwards: with Ok the same records of record format 2, with a fault what was there, but where the device failed
-- in the commit
abbrev pub AfterMigration : Result (Unit {0}) OpeningFault → StoreState → StoreState → Type 0
AfterMigration (Ok x) old new = stored new ≡ in_second (stored old)
AfterMigration (Err (Read fault)) old new = IsUnchanged old new
AfterMigration (Err (Commit commit.Full)) old new = IsUnchanged old new
AfterMigration (Err (Commit commit.Memory)) old new = IsUnchanged old new
AfterMigration (Err (Commit commit.Device)) old new = Unit {0}
AfterMigration (Err (Commit commit.Number)) old new = IsUnchanged old new

-- a migration of a store that stands for this database
pub record Migrates (result : Result (Unit {0}) OpeningFault) (db : Database) (old new : StoreState) : Type 0 where
  pub keeps : KeepsDatabase db result old new
  pub outcome : AfterMigration result old new
