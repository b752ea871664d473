-- What opening a database on a device comes to.
use Rattle.std.specs.Prelude.{◌≡◌, ◌⊎◌, ◌≤◌, ◌+◌, ◌-◌, ◌^◌, ◌/◌, Bool, true, false, Option, Some, Result, MatchResult}
use Rattle.storage_sizes.specs.declared.record_format.RecordFormat.{RecordFormat}
use Rattle.storage_sizes.specs.declared.record_format.RecordFormat.TheVariants.{V1, V2}
use Rattle.sector_device.specs.Device.{DeviceState, HasFailed}
use Rattle.sector_device.specs.declared.device.Device.{Ghosts}
use Rattle.cow_pages.specs.declared.open.OpenFault.TheVariants as pages
use Rattle.store.specs.declared.fault.Fault.TheVariants as read
use Rattle.store.specs.declared.fault.StoreFault.TheVariants as commit
use Rattle.store.specs.Store.{Contents}
use Rattle.journal_store.specs.declared.device_stores.DeviceStore.{DeviceStore}
use Rattle.journal_store.specs.DeviceOpening.{IsNamedFor}
use Rattle.journal_store.specs.DeviceStores.{device_of, state_under as state_below, store_state}
use Rattle.abstract_database.specs.Database.{Database}
use Rattle.server.specs.declared.server.Server.{Server}
use Rattle.server.specs.Standing.{Represents, at_start}
use Rattle.databases.specs.declared.fault.DatabaseFault.{DatabaseFault}
use Rattle.databases.specs.declared.fault.DatabaseFault.TheVariants.{Pages, Records}
use Rattle.databases.specs.OnDevice.{IsOfDevice}
use Rattle.recovery.specs.declared.fault.OpeningFault.TheVariants.{Read, Commit}
use Rattle.databases.specs.declared.database.Opened.{Opened}
use Rattle.databases.specs.Databases.{HoldsDatabase, HoldsRecordFormat1, IsUnwritten, KeepsRecords, LeavesAsBefore, LeavesDatabase, MeansNone, records_on}

-- the device below a server
abbrev pub device_under : {D : Type 0} {g : Ghosts D} {X : Type 0} → Server (DeviceStore D g) X → D
device_under server = device_of server.store

-- its state
abbrev pub state_under : {D : Type 0} {g : Ghosts D} {X : Type 0} → Server (DeviceStore D g) X → DeviceState
state_under server = state_below server.store

-- ---- what was opened

-- records of record format 1 are migrated
abbrev pub is_first : RecordFormat → Bool
is_first V1 = true
is_first V2 = false

-- the store has the records of the device under their number, and no sector was written: so a stop leaves records that it might
-- have left before
pub record IsOnlyRead {D : Type 0} {g : Ghosts D} {X : Type 0} (d : DeviceState) {db : Database} (holds : HoldsDatabase d db) (server : Server (DeviceStore D g) X) : Type 0 where
  pub keeps : KeepsRecords holds (store_state server.store)
  pub unwritten : IsUnwritten d (state_under server)
  pub leaves : LeavesAsBefore d (state_under server)

-- the database stayed over the migration of its records, which is one commit; failures of the device stay counted
pub record IsMigrated {D : Type 0} {g : Ghosts D} {X : Type 0} (d : DeviceState) {db : Database} (holds : HoldsDatabase d db) (server : Server (DeviceStore D g) X) : Type 0 where
  pub by_one : (store_state server.store).number ≤ holds.has.number + 1
  pub not_back : holds.has.number ≤ (store_state server.store).number
  pub leaves : LeavesDatabase db d (state_under server)
  pub failures : d.failures ≤ (state_under server).failures

-- records of record format 2 were only read, and those of record format 1 were migrated
abbrev pub OpensAs : {D : Type 0} {g : Ghosts D} {X : Type 0} → RecordFormat → (d : DeviceState) {db : Database} → HoldsDatabase d db → Server (DeviceStore D g) X → Type 0
OpensAs V2 d holds server = IsOnlyRead d holds server
OpensAs V1 d holds server = IsMigrated d holds server

-- a server has just been opened over the database that the device holds, and its store is of record format 2
pub record IsOpenedOn {D : Type 0} {g : Ghosts D} {X : Type 0} (d : DeviceState) (opened : Opened D X g) : Type 0 where
  pub database : Database
  pub holds : HoldsDatabase d database
  pub was_migrated : opened.was_migrated ≡ is_first holds.contents.record_format
  pub sound : (store_state opened.server.store).sound
  pub second : (store_state opened.server.store).record_format ≡ V2
  pub represents : Represents store_state opened.server (at_start (store_state opened.server.store) database)
  pub how : OpensAs holds.contents.record_format d holds opened.server

-- ---- what was refused

-- The fault that stands in what the device holds: that of its pages, or Damaged where its records stand for no database. Memory
-- is asked for after the size and the magic are tested. That a call of the device failed says nothing of what it holds. The
-- commit of a migration is refused where the records are of record format 1, and for a number where theirs is the last.
abbrev pub StandsIn : DatabaseFault → DeviceState → Type 0
StandsIn (Pages fault) d = IsNamedFor fault d
StandsIn (Records (Read read.Memory)) d = IsNamedFor pages.Memory d
StandsIn (Records (Read read.Device)) d = Unit {0}
StandsIn (Records (Read read.Damaged)) d = MeansNone (d.sectors / 8) d.content
StandsIn (Records (Commit commit.Number)) d = (holds : HoldsRecordFormat1 d) × (holds.has.number ≡ 2 ^ 64 - 1)
StandsIn (Records (Commit fault)) d = HoldsRecordFormat1 d

-- a fault that a migration may have
abbrev pub IsOfMigration : DatabaseFault → Type 0
IsOfMigration (Pages fault) = ⊥
IsOfMigration (Records (Read read.Memory)) = Unit {0}
IsOfMigration (Records (Read read.Device)) = Unit {0}
IsOfMigration (Records (Read read.Damaged)) = ⊥
IsOfMigration (Records (Commit fault)) = Unit {0}

-- The migration of records of record format 1 was tried: the database that the device held stayed, at every moment; and unless
-- the device failed, a stop now leaves the contents that it held, and nothing else
pub record IsTriedOn (fault : DatabaseFault) (d e : DeviceState) : Type 0 where
  pub holds : HoldsRecordFormat1 d
  pub of_migration : IsOfMigration fault
  pub leaves : (db : Database) → HoldsDatabase d db → LeavesDatabase db d e
  pub unchanged : (IsOfDevice fault → ⊥) → (x : Option Contents) → (records_on e).left x → x ≡ Some holds.contents
  pub failures : d.failures ≤ e.failures

-- not one sector was written: so a stop leaves records that it might have left before
abbrev pub IsUntried : DeviceState → DeviceState → Type 0
IsUntried d e = IsUnwritten d e × LeavesAsBefore d e

-- no server was opened, and no sector was written, unless a migration was tried
pub record IsRefused (d : DeviceState) (fault : DatabaseFault) (e : DeviceState) : Type 0 where
  pub faithful : e.faithful
  pub stands : StandsIn fault d
  pub failed : IsOfDevice fault → HasFailed d e
  pub outcome : IsUntried d e ⊎ IsTriedOn fault d e

-- ---- answers

-- a server was opened, or the device is handed back
abbrev pub OpensOn : {D : Type 0} {g : Ghosts D} {X : Type 0} → DeviceState → Result (Opened D X g) (D × DatabaseFault) → Type 0
OpensOn {g = g} d result = MatchResult result (λ opened. IsOpenedOn d opened) (λ e. IsRefused d e.1 (g.state e.0))
