-- The device with a history, as its callers see it.
use Rattle.std.specs.Prelude.{◌≡◌, List, [], ◌∷◌, ◌++◌, Result, Ok, Err}
use Rattle.sector_device.specs.Device.{DeviceState}
use Rattle.sector_device.specs.History.{history_state}
use Rattle.sector_device.specs.declared.device.DeviceFault.{DeviceFault}
use Rattle.sector_device.specs.declared.call.Call.{Call}
use Rattle.sector_device.specs.declared.history.HistoryDevice.{HistoryDevice}

-- its calls so far, the first of them first
abbrev pub calls_of : HistoryDevice → List Call
calls_of d = d.calls.items

-- its state
abbrev pub history_device_state : HistoryDevice → DeviceState
history_device_state d = history_state d.sectors d.calls.items d.failures

-- a call that succeeds is the last of them, and one that fails is none of them
abbrev pub IsNoted : Result (Unit {0}) DeviceFault → Call → HistoryDevice → HistoryDevice → Type 0
IsNoted (Ok x) call old new = calls_of new ≡ calls_of old ++ call ∷ []
IsNoted (Err fault) call old new = calls_of new ≡ calls_of old
