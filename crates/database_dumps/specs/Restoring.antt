-- What making a database of a dump does.
use Rattle.std.specs.Prelude.{◌≡◌, ℕ, List, [], ◌∷◌, false, Result, Ok, Err, count_by}
use Rattle.sector_device.specs.Device.{DeviceState, Image, HasFailed}
use Rattle.storage_sizes.specs.CurrentRecordFormat.{current}
use Rattle.store.specs.Contents.{changed_by_batch}
use Rattle.store.specs.Records.{Records, Changes}
use Rattle.store.specs.Store.{Commits, Contents, HasDeviceCause, StoreState, stored}
use Rattle.store.specs.declared.fault.Fault.{Fault}
use Rattle.store.specs.declared.fault.Fault.TheVariants as read
use Rattle.store.specs.declared.fault.StoreFault.TheVariants as write
use Rattle.cow_pages.specs.Image.{is_size}
use Rattle.abstract_database.specs.Database.{Database}
use Rattle.stored_database.specs.BothRecordFormats.{Stands}
use Rattle.stored_database.specs.Records.{StandsFor}
use Rattle.transactions.specs.Views.{applied_all}
use Rattle.copies.specs.RecordCopies.{mark}
use Rattle.copies.specs.declared.fault.CopyFault.TheVariants.{Write, WrongSize}
use Rattle.copies.specs.DatabaseCopies.{IsCopyOf}
use Rattle.dumps.specs.declared.fault.DumpFault.TheVariants as reading
use Rattle.dumps.specs.declared.place.DumpPlace.{DumpPlace}
use Rattle.dumps.specs.Form.{TheDump}
use Rattle.dumps.specs.OnDevice.{HoldsDump}
use Rattle.dumps.specs.SeveralLists.{HasAllLists}
use Rattle.database_dumps.specs.Dumping.{records_of}
use Rattle.database_dumps.specs.Roles.{is_superuser_role, has_login}
use Rattle.database_dumps.specs.declared.roles.RestoredRoles.{RestoredRoles}
use Rattle.database_dumps.specs.declared.fault.RestoreFault.{RestoreFault}
use Rattle.database_dumps.specs.declared.fault.RestoreFault.TheVariants.{Dump, New}

-- what a dump makes
abbrev pub contents_of : TheDump → Contents
contents_of dump = record { record_format = current; records = records_of dump }

-- no dump is there whose records stand for a database
abbrev pub HoldsNoneOfDatabase : DeviceState → Type 0
HoldsNoneOfDatabase d = (dump : TheDump) (db : Database) → HoldsDump d dump → Stands (contents_of dump) db → ⊥

-- ---- lists

-- a store that had the mark of a copy alone works, and has behind it what all lists make that there are
pub record HasCommitted (sectors : ℕ) (image : Image) (before : List ℕ) (place : DumpPlace) (old new : StoreState) : Type 0 where
  pub lists : List Changes
  pub has : HasAllLists sectors image before lists place
  pub sound : new.sound
  pub works : new.has_failed ≡ false
  pub record_format : new.record_format ≡ old.record_format
  pub map : new.map ≡ mark ∷ applied_all lists []

-- a commit of one list
abbrev pub CommitsList : Result (Unit {0}) RestoreFault → Changes → StoreState → StoreState → Type 0
CommitsList (Ok x) changes old new = Commits (Ok x) (changed_by_batch changes (stored old)) old new
CommitsList (Err (New (Write fault))) changes old new = Commits (Err fault) (changed_by_batch changes (stored old)) old new
CommitsList (Err fault) changes old new = ⊥

-- why one is not made: with Device the store failed
abbrev pub IsCommitFault : RestoreFault → StoreState → StoreState → Type 0
IsCommitFault (New (Write write.Device)) old new = HasDeviceCause old new
IsCommitFault (New (Write fault)) old new = Unit {0}
IsCommitFault fault old new = ⊥

-- why a list was not read or committed: the fault of a read stands in the dump, or its device failed; that of a commit in the store
abbrev pub HasListCause : RestoreFault → DeviceState → DeviceState → StoreState → StoreState → Type 0
HasListCause (Dump reading.Memory) d e old new = Unit {0}
HasListCause (Dump reading.Device) d e old new = HasFailed d e
HasListCause (Dump reading.Damaged) d e old new = Unit {0}
HasListCause (New (Write write.Device)) d e old new = HasDeviceCause old new
HasListCause (New (Write fault)) d e old new = Unit {0}
HasListCause fault d e old new = ⊥

-- why a database is not made: the fault of a read stands in the dump, or its device failed; that of a commit in the store
abbrev pub HasRestoreCause : RestoreFault → DeviceState → DeviceState → StoreState → StoreState → Type 0
HasRestoreCause (Dump reading.Memory) d e old new = Unit {0}
HasRestoreCause (Dump reading.Device) d e old new = HasFailed d e
HasRestoreCause (Dump fault) d e old new = Unit {0}
HasRestoreCause (New (Write write.Device)) d e old new = HasDeviceCause old new
HasRestoreCause (New (Write fault)) d e old new = Unit {0}
HasRestoreCause (New fault) d e old new = ⊥

-- ---- a store

-- the records stand for a database, which has so many superusers and roles that may log in
pub record HasRoles (records : Records) (roles : RestoredRoles) : Type 0 where
  pub database : Database
  pub stands : StandsFor records database
  pub superusers : roles.superusers ≡ count_by is_superuser_role database.roles
  pub logins : roles.logins ≡ count_by has_login database.roles

-- that; or they stand for none, if that is what is answered
abbrev pub FindsRoles : Result RestoredRoles RestoreFault → Records → Type 0
FindsRoles (Ok roles) records = HasRoles records roles
FindsRoles (Err (Dump reading.Damaged)) records = (db : Database) → StandsFor records db → ⊥
FindsRoles (Err fault) records = Unit {0}

-- why no database is read of the records that a dump made
abbrev pub of_records : Fault → RestoreFault
of_records read.Memory = Dump reading.Memory
of_records read.Device = New (Write write.Device)
of_records read.Damaged = Dump reading.Damaged

-- why the records of a store were not read: its device failed
abbrev pub IsReadCause : RestoreFault → StoreState → StoreState → Type 0
IsReadCause (Dump reading.Memory) old new = Unit {0}
IsReadCause (Dump reading.Damaged) old new = Unit {0}
IsReadCause (New (Write write.Device)) old new = HasDeviceCause old new
IsReadCause fault old new = ⊥

-- a dump is there, its records stand for a database, with so many superusers and roles that may log in, and a store that works has exactly these
pub record IsRestoredIn (d : DeviceState) (roles : RestoredRoles) (s : StoreState) : Type 0 where
  pub dump : TheDump
  pub holds : HoldsDump d dump
  pub database : Database
  pub stands : Stands (contents_of dump) database
  pub superusers : roles.superusers ≡ count_by is_superuser_role database.roles
  pub logins : roles.logins ≡ count_by has_login database.roles
  pub sound : s.sound
  pub works : s.has_failed ≡ false
  pub stored_is : stored s ≡ contents_of dump

-- that; or no dump of a database is there, if that is what is answered
abbrev pub RestoresIn : DeviceState → Result RestoredRoles RestoreFault → StoreState → Type 0
RestoresIn d (Ok roles) s = IsRestoredIn d roles s
RestoresIn d (Err (Dump reading.Memory)) s = Unit {0}
RestoresIn d (Err (Dump reading.Device)) s = Unit {0}
RestoresIn d (Err (Dump fault)) s = HoldsNoneOfDatabase d
RestoresIn d (Err (New fault)) s = Unit {0}

-- ---- a device

-- a dump is there, its records stand for a database, with so many superusers and roles that may log in, and each image that a stop leaves of the new
-- device stands for it
pub record IsRestored (d : DeviceState) (roles : RestoredRoles) (new : DeviceState) : Type 0 where
  pub dump : TheDump
  pub holds : HoldsDump d dump
  pub database : Database
  pub stands : Stands (contents_of dump) database
  pub superusers : roles.superusers ≡ count_by is_superuser_role database.roles
  pub logins : roles.logins ≡ count_by has_login database.roles
  pub whole : IsCopyOf database new

-- a database is made of the dump; or there is none; or it stops for memory, for room, or for one of the devices. No other fault comes
abbrev pub RestoresDump : DeviceState → DeviceState → Result RestoredRoles RestoreFault → DeviceState → DeviceState → Type 0
RestoresDump d e (Ok roles) old new = IsRestored d roles new
RestoresDump d e (Err (Dump reading.Memory)) old new = Unit {0}
RestoresDump d e (Err (Dump reading.Device)) old new = HasFailed d e
RestoresDump d e (Err (Dump fault)) old new = HoldsNoneOfDatabase d
RestoresDump d e (Err (New WrongSize)) old new = is_size old.sectors ≡ false
RestoresDump d e (Err (New (Write write.Device))) old new = HasFailed old new
RestoresDump d e (Err (New (Write fault))) old new = Unit {0}
RestoresDump d e (Err (New fault)) old new = ⊥
