-- The device in memory, as its callers see it.
use Rattle.std.specs.Prelude.{ℕ, List, [], get_or}
use Rattle.sector_device.specs.Device.{DeviceState}
use Rattle.sector_device.specs.Memory.{memory_state}
use Rattle.sector_device.specs.declared.memory.MemDevice.{MemDevice}

-- its state
abbrev pub memory_device_state : MemDevice → DeviceState
memory_device_state d = memory_state d.sectors d.last.items d.synced.items d.failures

-- what a sector held at the last sync that succeeded, or at the last restart
abbrev pub synced_content : MemDevice → ℕ → List ℕ
synced_content d s = get_or d.synced.items s []

-- how many of its sectors were read
abbrev pub reads_of : MemDevice → ℕ
reads_of d = d.reads
