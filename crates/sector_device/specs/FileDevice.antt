-- The device over a file, as its callers see it.
use Rattle.std.specs.Prelude.{Bool}
use Rattle.sector_device.specs.Device.{DeviceState}
use Rattle.sector_device.specs.FileState.{file_device}
use Rattle.sector_device.specs.declared.raw_file.RawFile.{Ghosts}
use Rattle.sector_device.specs.declared.file_device.FileDevice.{FileDevice}

-- the file below
abbrev pub file_of : {F : Type 0} {g : Ghosts F} → FileDevice F g → F
file_of {F} {g} d = d.file

-- its state: what the file's state says, by sectors
abbrev pub file_device_state : {F : Type 0} {g : Ghosts F} → FileDevice F g → DeviceState
file_device_state {F} {g} d = file_device (g.faithful d.file) (g.state d.file) d.sectors d.failures

-- whether a sync has failed since the file was opened
abbrev pub has_failed_sync : {F : Type 0} {g : Ghosts F} → FileDevice F g → Bool
has_failed_sync {F} {g} d = d.has_failed_sync
