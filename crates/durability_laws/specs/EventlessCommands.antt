-- Commands over the database on a device that answer no event: it is checked, read or copied, or its journal is turned on or off.
use Rattle.std.specs.Prelude.{◌≡◌, ℕ, Bool, true, false, Option, None, Some, Result, Ok, Err}
use Rattle.sector_device.specs.Device.{DeviceState}
use Rattle.sector_device.specs.declared.device.Device.{Ghosts}
use Rattle.journal_store.specs.declared.switch_fault.SwitchFault.{SwitchFault}
use Rattle.journal_store.specs.declared.switch_fault.SwitchFault.TheVariants.{Unopened, NotMigrated, Refused}
use Rattle.journal_store.specs.TurningOn.{TurnsOn}
use Rattle.journal_store.specs.TurningOff.{TurnsOff}
use Rattle.abstract_database.specs.Database.{Database}
use Rattle.abstract_database.specs.Runs.{Standing, IsFoundAt}
use Rattle.databases.specs.declared.database.Opened.{Opened}
use Rattle.databases.specs.Databases.{HoldsDatabase, IsUnwritten, records_on}
use Rattle.databases.specs.Openings.{IsOpenedOn, device_under}
use Rattle.databases.specs.Lives.{LeavesFound, IsNoLife, standing_over}
use Rattle.copies.specs.declared.fault.CopyFault.{CopyFault}
use Rattle.copies.specs.DatabaseCopies.{CopiesDatabase}

-- ---- what they do

-- the journal of a device is turned on, or off
abbrev pub TurnsJournal : {D : Type 0} (g : Ghosts D) → Bool → DeviceState → Result ℕ SwitchFault → DeviceState → Type 0
TurnsJournal g true d result e = TurnsOn g d result e
TurnsJournal g false d result e = TurnsOff g d result e

-- the database on a device was opened, and closed again: one in record format 1 was migrated
pub record ChecksFrom {D : Type 0} (g : Ghosts D) (X : Type 0) (begin end : D) : Type 0 where
  pub opened : Opened D X g
  pub is_opened : IsOpenedOn (g.state begin) opened
  pub left_is : end ≡ device_under opened.server

-- the database on a device was copied to another one, with this answer, and no sector of the first was written
pub record CopiesFrom {D : Type 0} (g : Ghosts D) (result : Result (Unit {0}) CopyFault) (begin end blank copy : D) : Type 0 where
  pub copies : CopiesDatabase (g.state begin) (g.state end) g.state result blank copy
  pub unwritten : IsUnwritten (g.state begin) (g.state end)

-- a device was read, and no sector of it was written; then its journal was turned on, or off, with this answer
pub record SwitchesFrom {D : Type 0} (g : Ghosts D) (on : Bool) (result : Result ℕ SwitchFault) (begin end : D) : Type 0 where
  pub read : D
  pub unwritten : IsUnwritten (g.state begin) (g.state read)
  pub turns : TurnsJournal g on (g.state read) result (g.state end)

-- what such a command did with a device, from when it began to when it ended
pub data EventlessCommand {D : Type 0} (g : Ghosts D) (X : Type 0) (begin end : D) : Type 0 where
  checked : ChecksFrom g X begin end → EventlessCommand g X begin end
  only_read : IsUnwritten (g.state begin) (g.state end) → EventlessCommand g X begin end
  copied : (result : Result (Unit {0}) CopyFault) (blank copy : D) → CopiesFrom g result begin end blank copy → EventlessCommand g X begin end
  switched : (on : Bool) (result : Result ℕ SwitchFault) → SwitchesFrom g on result begin end → EventlessCommand g X begin end

-- ---- where they lead

-- A stop at any moment leaves what the last one may have left; and the database that the device held is one that it may have left.
pub record KeepsFound (last : Standing) (d e : DeviceState) : Type 0 where
  pub leaves : IsNoLife last (records_on d) (records_on e)
  pub held : (db : Database) → HoldsDatabase d db → IsFoundAt last db

-- what was read may have gone by the next command, which goes on from where this one did
abbrev pub GoesOnAlike : Standing → DeviceState → DeviceState → Standing → Type 0
GoesOnAlike last d e next = KeepsFound last d e × (next ≡ last)

-- once all was done, the next command goes on from the database that the device held, and from no other; after a stop on the way it goes on from where this one did
abbrev pub GoesOnFromHeld : Standing → DeviceState → DeviceState → Option ℕ → Standing → Type 0
GoesOnFromHeld last d e None next = KeepsFound last d e × ((db : Database) × HoldsDatabase d db × (next ≡ standing_over db))
GoesOnFromHeld last d e (Some stop) next = KeepsFound last d e × (next ≡ last)

-- a device that was not opened, or whose records are of record format 1, was only read; every other one holds the same database then
abbrev pub GoesOnSwitched : Result ℕ SwitchFault → Standing → DeviceState → DeviceState → Option ℕ → Standing → Type 0
GoesOnSwitched (Ok number) last d e stop next = GoesOnFromHeld last d e stop next
GoesOnSwitched (Err (Unopened fault)) last d e stop next = GoesOnAlike last d e next
GoesOnSwitched (Err NotMigrated) last d e stop next = GoesOnAlike last d e next
GoesOnSwitched (Err (Refused fault)) last d e stop next = GoesOnFromHeld last d e stop next

-- from a whole copy commands go on as from the database that the device held
abbrev pub BeginsCopy : Result (Unit {0}) CopyFault → DeviceState → DeviceState → DeviceState → Type 0
BeginsCopy (Ok x) d blank copy = blank.faithful → (db : Database) × HoldsDatabase d db × LeavesFound (standing_over db) (records_on copy)
BeginsCopy (Err fault) d blank copy = Unit {0}

module _ {D : Type 0} {g : Ghosts D} {X : Type 0} where
  -- it leads from where the last command was stopped to where it is stopped itself
  abbrev pub LeadsEventless : {begin end : D} → EventlessCommand g X begin end → Standing → Option ℕ → Standing → Type 0
  LeadsEventless {begin} {end} (checked checks) last stop next = GoesOnFromHeld last (g.state begin) (g.state end) stop next
  LeadsEventless {begin} {end} (only_read unwritten) last stop next = GoesOnAlike last (g.state begin) (g.state end) next
  LeadsEventless {begin} {end} (copied result blank copy copies) last stop next =
      GoesOnAlike last (g.state begin) (g.state end) next × BeginsCopy result (g.state begin) (g.state blank) (g.state copy)
  LeadsEventless {begin} {end} (switched on result switches) last stop next = GoesOnSwitched result last (g.state begin) (g.state end) stop next
