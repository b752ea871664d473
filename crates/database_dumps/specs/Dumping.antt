-- What a dump of the database on a device does.
use Rattle.std.specs.Prelude.{◌≡◌, ◌/◌, ℕ, List, [], Result, Ok, Err}
use Rattle.sector_device.specs.Device.{DeviceState, Image, HasFailed, IsLeft, IsSynced}
use Rattle.store.specs.declared.fault.Fault.TheVariants as read
use Rattle.store.specs.declared.fault.StoreFault.TheVariants as write
use Rattle.store.specs.Readers.{HasFaultCause}
use Rattle.store.specs.Records.{Records, Changes}
use Rattle.store.specs.Store.{StoreState, stored}
use Rattle.cow_pages.specs.declared.open.OpenFault.TheVariants as pages
use Rattle.journal_store.specs.DeviceOpening.{IsNamedFor}
use Rattle.abstract_database.specs.Database.{Database}
use Rattle.stored_database.specs.BothRecordFormats.{Stands}
use Rattle.transactions.specs.Views.{applied_all}
use Rattle.recovery.specs.Migrated.{in_second}
use Rattle.copies.specs.RecordCopies.{behind_mark}
use Rattle.copies.specs.declared.fault.CopyFault.{CopyFault}
use Rattle.copies.specs.declared.fault.CopyFault.TheVariants.{Pages, Read, Write}
use Rattle.databases.specs.Databases.{MeansDatabase, MeansNone}
use Rattle.dumps.specs.Form.{TheDump}
use Rattle.dumps.specs.OnDevice.{BeginsWithZeros, HoldsDump, IsDumpOn}
use Rattle.dumps.specs.SeveralLists.{HasLists}
use Rattle.dumps.specs.declared.place.DumpPlace.{DumpPlace}

-- the records that the lists of a dump make, one after the other
abbrev pub records_of : TheDump → Records
records_of dump = applied_all dump.lists []

-- ---- the records of a map

-- from one place to another there are lists that make these records
pub record HasRecords (sectors : ℕ) (image : Image) (before : List ℕ) (records : Records) (old new : DumpPlace) : Type 0 where
  pub lists : List Changes
  pub after : List ℕ
  pub has : HasLists sectors image before after lists old new
  pub makes : applied_all lists [] ≡ records

-- the device is a dump of these records with this number, and a stop leaves nothing else
pub record HasDumpedRecords (records : Records) (number : ℕ) (d : DeviceState) : Type 0 where
  pub dump : TheDump
  pub holds : HoldsDump d dump
  pub synced : IsSynced d
  pub numbered : dump.number ≡ number
  pub makes : records_of dump ≡ behind_mark records

-- why one is not there: the fault of a read stands in the source, and that the device failed in it
abbrev pub HasDumpCause : CopyFault → StoreState → StoreState → DeviceState → DeviceState → Type 0
HasDumpCause (Read fault) source later old new = HasFaultCause fault source later
HasDumpCause (Write write.Full) source later old new = Unit {0}
HasDumpCause (Write write.Memory) source later old new = Unit {0}
HasDumpCause (Write write.Device) source later old new = HasFailed old new
HasDumpCause (Write write.Number) source later old new = ⊥
HasDumpCause fault source later old new = ⊥

-- ---- a database

-- the contents of a store stand for a database, and the device is a dump of their records in record format 2, with the store's number
pub record IsDumpOfStore (s : StoreState) (d : DeviceState) : Type 0 where
  pub database : Database
  pub stands : Stands (stored s) database
  pub dump : TheDump
  pub holds : HoldsDump d dump
  pub synced : IsSynced d
  pub numbered : dump.number ≡ s.number
  pub makes : records_of dump ≡ (in_second (stored s)).records

-- an image of so many pages stands for a database, and each image that a stop leaves of a device is a dump with its commit number, whose
-- lists make its records, in record format 2
pub record IsDumpOfImage (pages : ℕ) (source : Image) (d : DeviceState) : Type 0 where
  pub database : Database
  pub means : MeansDatabase pages source database
  pub dump : TheDump
  pub makes : records_of dump ≡ (in_second means.contents).records
  pub number : dump.number ≡ means.has.number
  pub left : (image : Image) → IsLeft d image → IsDumpOn d.sectors image dump

-- a device is a dump of the database that the source holds
abbrev pub IsDumpOf : DeviceState → DeviceState → Type 0
IsDumpOf source d = IsDumpOfImage (source.sectors / 8) source.content d

-- The whole database is dumped; or it is not, for memory or for the source: its device failed, or the fault stands in what it holds; or for
-- room or for the device of the dump. No other fault comes
abbrev pub DumpsDatabase : DeviceState → DeviceState → Result (Unit {0}) CopyFault → DeviceState → DeviceState → Type 0
DumpsDatabase d e (Ok x) old new = old.faithful → BeginsWithZeros old → IsDumpOf d new
DumpsDatabase d e (Err (Pages pages.Device)) old new = HasFailed d e
DumpsDatabase d e (Err (Pages fault)) old new = IsNamedFor fault d
DumpsDatabase d e (Err (Read read.Memory)) old new = Unit {0}
DumpsDatabase d e (Err (Read read.Device)) old new = HasFailed d e
DumpsDatabase d e (Err (Read read.Damaged)) old new = MeansNone (d.sectors / 8) d.content
DumpsDatabase d e (Err (Write write.Full)) old new = Unit {0}
DumpsDatabase d e (Err (Write write.Memory)) old new = Unit {0}
DumpsDatabase d e (Err (Write write.Device)) old new = HasFailed old new
DumpsDatabase d e (Err (Write write.Number)) old new = ⊥
DumpsDatabase d e (Err fault) old new = ⊥
