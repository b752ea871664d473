-- The definitions of the database in a file, which is only read.
use Rattle.std.specs.Prelude.{◌≡◌, ◌⊎◌, Result, Ok, Err, List, ℕ}
use Rattle.sector_device.specs.Device.{DeviceState, HasFailed}
use Rattle.sector_device.specs.declared.device.Device.{Ghosts}
use Rattle.store.specs.declared.fault.Fault.{Fault}
use Rattle.store.specs.declared.fault.Fault.TheVariants.{Memory, Device, Damaged}
use Rattle.store.specs.Store.{Contents}
use Rattle.systems.specs.declared.access.Access.TheVariants.{Read}
use Rattle.systems.specs.Systems.{SystemState}
use Rattle.abstract_database.specs.Database.{Database}
use Rattle.stored_database.specs.Definitions.{Definitions}
use Rattle.stored_database.specs.Records.{Shows}
use Rattle.stored_database.specs.BothRecordFormats.{in_record_format_2, Stands}
use Rattle.databases.specs.declared.fault.DatabaseFault.{DatabaseFault}
use Rattle.databases.specs.declared.fault.DatabaseFault.TheVariants.{Pages, Records}
use Rattle.databases.specs.OnDevice.{IsOfDevice}
use Rattle.recovery.specs.declared.fault.OpeningFault.TheVariants as opening
use Rattle.databases.specs.Databases.{HoldsDatabase, IsUnwritten}
use Rattle.databases.specs.Openings.{StandsIn}
use Rattle.cli.specs.declared.fault.CommandFault.{CommandFault}
use Rattle.cli.specs.Faults.{of_opening}
use Rattle.cli.specs.Files.{IsNotOpened, ReadsDevice}

-- ---- what contents define

-- contents stand for this database with these definitions
abbrev pub ShowsAs : Contents → Definitions → Database → Type 0
ShowsAs contents definitions db = Shows (in_record_format_2 contents.record_format contents.records) definitions db

-- the definitions of the database that contents stand for, or Damaged where they stand for none
abbrev pub AreDefinitionsOf : Contents → Result Definitions Fault → Type 0
AreDefinitionsOf contents (Ok definitions) = (db : Database) × ShowsAs contents definitions db
AreDefinitionsOf contents (Err Memory) = Unit {0}
AreDefinitionsOf contents (Err Device) = Unit {0}
AreDefinitionsOf contents (Err Damaged) = (db : Database) → Stands contents db → ⊥

-- ---- on a device

-- the device holds a database with these definitions
pub record HasDefinitions (d : DeviceState) (definitions : Definitions) : Type 0 where
  pub database : Database
  pub holds : HoldsDatabase d database
  pub shows : ShowsAs holds.contents definitions database

-- a fault that a reading may have: none of a migration
abbrev pub IsOfReadFile : DatabaseFault → Type 0
IsOfReadFile (Pages fault) = Unit {0}
IsOfReadFile (Records (opening.Read fault)) = Unit {0}
IsOfReadFile (Records (opening.Commit fault)) = ⊥

-- the fault stands in what the device holds, or a call of it failed
pub record HasFault (d : DeviceState) (fault : DatabaseFault) (e : DeviceState) : Type 0 where
  pub of_reading : IsOfReadFile fault
  pub stands : StandsIn fault d
  pub failed : IsOfDevice fault → HasFailed d e

-- the definitions of the database that the device holds, or why they were not read
abbrev pub AreReadOn : DeviceState → Result Definitions DatabaseFault → DeviceState → Type 0
AreReadOn d (Ok definitions) e = HasDefinitions d definitions
AreReadOn d (Err fault) e = HasFault d fault e

-- and not one sector was written
pub record ReadsOn (d : DeviceState) (result : Result Definitions DatabaseFault) (e : DeviceState) : Type 0 where
  pub read : AreReadOn d result e
  pub unwritten : IsUnwritten d e

-- ---- in a file

-- `g` is what is said of devices, `old` the system before, and `path` that of the file
module _ {D L : Type 0} (g : Ghosts D) (old : SystemState D L) (path : List ℕ) where
  -- the device that the path named was read, and the path names it as it was left: not one sector of it was written
  pub record IsReadAt (result : Result Definitions DatabaseFault) (new : SystemState D L) : Type 0 where
    pub device : D
    pub left : D
    pub changes : old.faithful → ReadsDevice g old path device left new
    pub reads : old.faithful → ReadsOn (g.state device) result (g.state left)

  -- what it holds was refused
  pub record IsUnreadAt (fault : CommandFault) (new : SystemState D L) : Type 0 where
    pub why : DatabaseFault
    pub is : fault ≡ of_opening why
    pub read : IsReadAt (Err why) new

  -- the definitions of the database in the file; or it was not opened, or what it holds was refused
  abbrev pub ReadsFile : Result Definitions CommandFault → SystemState D L → Type 0
  ReadsFile (Ok definitions) new = IsReadAt (Ok definitions) new
  ReadsFile (Err fault) new = IsNotOpened g old path Read fault new ⊎ IsUnreadAt fault new
