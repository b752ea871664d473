-- What turning the journal of the database in a file on or off does.
use Rattle.std.specs.Prelude.{◌≡◌, ◌⊎◌, ℕ, Bool, true, false, List, Result, Ok, Err}
use Rattle.sector_device.specs.Device.{DeviceState}
use Rattle.sector_device.specs.declared.device.Device.{Ghosts}
use Rattle.systems.specs.declared.access.Access.TheVariants.{Write}
use Rattle.systems.specs.Systems.{SystemState}
use Rattle.abstract_database.specs.Database.{Database}
use Rattle.stored_database.specs.Definitions.{Definitions}
use Rattle.journal_store.specs.declared.switch_fault.SwitchFault.{SwitchFault}
use Rattle.journal_store.specs.TurningOn.{TurnsOn}
use Rattle.journal_store.specs.TurningOff.{TurnsOff}
use Rattle.databases.specs.declared.fault.DatabaseFault.{DatabaseFault}
use Rattle.databases.specs.Databases.{HoldsDatabase, LeavesDatabase}
use Rattle.cli.specs.declared.fault.CommandFault.{CommandFault}
use Rattle.cli.specs.Faults.{of_opening, of_switch}
use Rattle.cli.specs.Files.{ChangesDevice, IsNotOpened}
use Rattle.cli.specs.Reading.{ReadsOn}

-- the journal of a device is turned on, or off
abbrev pub Switches : {D : Type 0} (g : Ghosts D) → Bool → DeviceState → Result ℕ SwitchFault → DeviceState → Type 0
Switches g true d result e = TurnsOn g d result e
Switches g false d result e = TurnsOff g d result e

-- the database that the device held stays, at every moment
abbrev pub KeepsDatabase : DeviceState → DeviceState → Type 0
KeepsDatabase d e = (db : Database) → HoldsDatabase d db → LeavesDatabase db d e

-- ---- on a device

-- `g` is what is said of devices, `d` the device before, and `e` after
module _ {D : Type 0} (g : Ghosts D) (on : Bool) (d : DeviceState) where
  -- the database that the device holds was read, and no sector written; then the journal of the device was turned on, or off
  pub record IsSwitched (result : Result ℕ SwitchFault) (e : DeviceState) : Type 0 where
    pub definitions : Definitions
    pub mid : D
    pub reads : d.faithful → ReadsOn d (Ok definitions) (g.state mid)
    pub switches : Switches g on (g.state mid) result e

  -- the database has a journal now, or none
  pub record IsDeviceSwitched (e : DeviceState) : Type 0 where
    pub number : ℕ
    pub switched : IsSwitched (Ok number) e
    pub stays : d.faithful → KeepsDatabase d e

  -- the device holds a database, whose journal was not turned on or off
  pub record IsSwitchRefused (fault : CommandFault) (e : DeviceState) : Type 0 where
    pub why : SwitchFault
    pub is : fault ≡ of_switch why
    pub tried : IsSwitched (Err why) e

  -- the device holds none, or was not read: no sector was written
  pub record IsDeviceUnread (fault : CommandFault) (e : DeviceState) : Type 0 where
    pub why : DatabaseFault
    pub is : fault ≡ of_opening why
    pub reads : d.faithful → ReadsOn d (Err why) e

  abbrev pub SwitchesDevice : Result (Unit {0}) CommandFault → DeviceState → Type 0
  SwitchesDevice (Ok x) e = IsDeviceSwitched e
  SwitchesDevice (Err fault) e = IsDeviceUnread fault e ⊎ IsSwitchRefused fault e

-- ---- in a file

-- `g` is what is said of devices, `old` the system before, and `path` that of the file
module _ {D L : Type 0} (g : Ghosts D) (old : SystemState D L) (path : List ℕ) (on : Bool) where
  -- so was the journal of the device that the path named, which is there as that has left it
  pub record IsFileSwitched (result : Result (Unit {0}) CommandFault) (new : SystemState D L) : Type 0 where
    pub device : D
    pub left : D
    pub is_faithful : old.faithful → (g.state device).faithful
    pub switches : SwitchesDevice g on (g.state device) result (g.state left)
    pub changes : old.faithful → ChangesDevice g old path device left new

  -- the file was not opened, and all is as it was
  pub record IsFileUnswitched (fault : CommandFault) (new : SystemState D L) : Type 0 where
    pub why : CommandFault
    pub is : fault ≡ why
    pub unopened : IsNotOpened g old path Write why new

  abbrev pub SwitchesFile : Result (Unit {0}) CommandFault → SystemState D L → Type 0
  SwitchesFile (Ok x) new = IsFileSwitched (Ok x) new
  SwitchesFile (Err fault) new = IsFileUnswitched fault new ⊎ IsFileSwitched (Err fault) new
