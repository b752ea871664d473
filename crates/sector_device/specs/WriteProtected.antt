-- The device that keeps sectors beside, as its callers see it.
use Rattle.sector_device.specs.Device.{DeviceState}
use Rattle.sector_device.specs.Beside.{guarded_state}
use Rattle.sector_device.specs.declared.device.Device.{Ghosts}
use Rattle.sector_device.specs.declared.write_protected.WriteProtected.{WriteProtected}

-- the device below
abbrev pub device_in : {D : Type 0} {g : Ghosts D} → WriteProtected D g → D
device_in guarded = guarded.device

-- its state
abbrev pub guarded_device_state : {D : Type 0} {g : Ghosts D} → WriteProtected D g → DeviceState
guarded_device_state {D} {g} guarded = guarded_state (g.state guarded.device)
