-- What calls over a device did, as commands.
use Rattle.sector_device.specs.Timeline.{IsPresent}
use Rattle.sector_device.specs.Device.{DeviceState, history_none, timeline}
use Rattle.cow_pages.proofs.Reading.{reads_none}
use Rattle.databases.specs.Databases.{IsUnwritten}

-- of a device that was not called no sector is written
pub uncalled : (d : DeviceState) → IsPresent (timeline d) → IsUnwritten d d
uncalled d present = record { history = history_none d; content = reads_none d present }
