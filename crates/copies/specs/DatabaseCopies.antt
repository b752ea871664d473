-- What copying the database on a device to another device does.
use Rattle.std.specs.Prelude.{◌≡◌, ◌⊎◌, ◌/◌, false, List, Some, Result, Ok, Err}
use Rattle.storage_sizes.specs.declared.record_format.RecordFormat.{RecordFormat}
use Rattle.sector_device.specs.Device.{DeviceState, Image, HasFailed, IsLeft}
use Rattle.store.specs.declared.fault.Fault.TheVariants as read
use Rattle.store.specs.Records.{Changes}
use Rattle.store.specs.Store.{Contents}
use Rattle.cow_pages.specs.declared.open.OpenFault.TheVariants as pages
use Rattle.cow_pages.specs.Image.{first_fault, is_size}
use Rattle.journal_store.specs.DeviceOpening.{IsNamedFor}
use Rattle.abstract_database.specs.Database.{Database}
use Rattle.stored_database.specs.BothRecordFormats.{Stands}
use Rattle.recovery.specs.Migrated.{in_second}
use Rattle.recovery.specs.MigrationChanges.{AreMigrating}
use Rattle.copies.specs.DeviceCopies.{CopiesAll}
use Rattle.databases.specs.Databases.{HoldsDatabase, MeansDatabase, MeansNone}
use Rattle.copies.specs.declared.fault.CopyFault.{CopyFault}
use Rattle.copies.specs.declared.fault.CopyFault.TheVariants.{Pages, Read}

-- ---- a store that is copied

-- the lists spell the contents in record format 2, in which they stand for a database
abbrev pub IsRead : Contents → List Changes → Type 0
IsRead contents lists = AreMigrating contents.record_format contents.records lists × (db : Database) × Stands contents db

-- the contents stand for a database, and are copied in record format 2, with this answer
abbrev pub CopiesRead : {E : Type 0} → Contents → (E → DeviceState) → Result (Unit {0}) CopyFault → E → E → Type 0
CopiesRead contents state result old new = (db : Database) × Stands contents db × CopiesAll state (in_second contents) result old new

-- contents that stand for no database are not copied; of others a copy is tried
abbrev pub CopiesStore : {E : Type 0} → Contents → (E → DeviceState) → Result (Unit {0}) CopyFault → E → E → Type 0
CopiesStore contents state (Err (Pages fault)) old new = ⊥
CopiesStore contents state (Err (Read read.Memory)) old new = new ≡ old
CopiesStore contents state (Err (Read read.Device)) old new = (new ≡ old) ⊎ CopiesRead contents state (Err (Read read.Device)) old new
CopiesStore contents state (Err (Read read.Damaged)) old new = ((db : Database) → Stands contents db → ⊥) × (new ≡ old)
CopiesStore contents state result old new = CopiesRead contents state result old new

-- ---- a device that is copied

-- the source holds a database, and its contents are copied in record format 2, with this answer
pub record Copies {E : Type 0} (source : DeviceState) (state : E → DeviceState) (result : Result (Unit {0}) CopyFault) (old new : E) : Type 0 where
  pub database : Database
  pub holds : HoldsDatabase source database
  pub copied : CopiesAll state (in_second holds.contents) result old new

-- each image that a stop leaves stands for the database that the source holds
abbrev pub IsCopyOf : Database → DeviceState → Type 0
IsCopyOf db d = (image : Image) → IsLeft d image → MeansDatabase (d.sectors / 8) image db

-- The whole database is copied; or nothing is written, for memory or for the source: its device failed, or the fault stands in what it
-- holds; or a copy is tried that stops for memory, for the source, for room or for its device
abbrev pub CopiesDatabase : {E : Type 0} → DeviceState → DeviceState → (E → DeviceState) → Result (Unit {0}) CopyFault → E → E → Type 0
CopiesDatabase d e state (Ok x) old new = (copy : Copies d state (Ok x) old new) × ((state old).faithful → IsCopyOf copy.database (state new))
CopiesDatabase d e state (Err (Pages pages.Device)) old new = HasFailed d e × (new ≡ old)
CopiesDatabase d e state (Err (Pages fault)) old new = IsNamedFor fault d × (new ≡ old)
CopiesDatabase d e state (Err (Read read.Memory)) old new = new ≡ old
CopiesDatabase d e state (Err (Read read.Device)) old new = HasFailed d e × ((new ≡ old) ⊎ Copies d state (Err (Read read.Device)) old new)
CopiesDatabase d e state (Err (Read read.Damaged)) old new = MeansNone (d.sectors / 8) d.content × (new ≡ old)
CopiesDatabase d e state (Err fault) old new = Copies d state (Err fault) old new
