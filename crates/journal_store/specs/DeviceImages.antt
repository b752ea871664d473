-- What a stop leaves of a device, read as contents.
use Rattle.std.specs.Prelude.{◌/◌, Option}
use Rattle.sector_device.specs.Timeline.{Timeline, read_by}
use Rattle.sector_device.specs.Device.{DeviceState, timeline}
use Rattle.store.specs.Store.{Contents}
pub use Rattle.journal_store.specs.Images.{HasContents, IsReadAs}

-- each image that it leaves is read as that of a device of so many pages, with a journal or without, as its root says
abbrev pub records_on : DeviceState → Timeline (Option Contents)
records_on d = read_by (IsReadAs (d.sectors / 8)) (timeline d)
