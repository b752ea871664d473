-- A device that keeps sectors beside, over one that keeps none.
use Rattle.sector_device.specs.Device.{DeviceState, IsBehindRoots}

-- the device, with the sectors behind the root sectors beside
abbrev pub guarded_state : DeviceState → DeviceState
guarded_state d = record d { beside = IsBehindRoots }
