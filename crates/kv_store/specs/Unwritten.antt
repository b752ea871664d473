-- Calls on pages that write nothing.
use Rattle.sector_device.specs.Timeline.{IsPresent}
use Rattle.sector_device.specs.Device.{DeviceState, timeline}
use Rattle.sector_device.specs.declared.device.Device.{Ghosts}
use Rattle.cow_pages.specs.declared.cow.CowPages.{CowPages}
use Rattle.cow_pages.specs.Held.{KeepsContent}
use Rattle.cow_pages.specs.Cow.{device_below}
use Rattle.cow_pages.specs.Preserved.{IsPreserved}

-- The device is faithful, and a stop at the present moment leaves what a stop now may leave, as of each faithful device.
pub record IsFaithfulNow (d : DeviceState) : Type 0 where
  pub faithful : d.faithful
  pub present : IsPresent (timeline d)

-- Nothing was written: the root is as it was, each sector has the content that it had, and a stop leaves no more than before.
pub record WritesNothing {D : Type 0} {g : Ghosts D} (old new : CowPages D g) : Type 0 where
  pub preserved : IsPreserved old new
  pub content : IsFaithfulNow (device_below old) → KeepsContent (device_below old) (device_below new)
  pub stays : IsFaithfulNow (device_below old) → IsFaithfulNow (device_below new)
