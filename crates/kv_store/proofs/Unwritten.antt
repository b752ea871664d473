-- What was written to a device since a store was opened on it.
use Rattle.sector_device.specs.Timeline.{IsPresent}
use Rattle.sector_device.specs.Device.{DeviceState, KeepsHistory, timeline, history_joined}
use Rattle.sector_device.specs.declared.device.Device.{Ghosts}
use Rattle.cow_pages.specs.Held.{KeepsContent}
use Rattle.cow_pages.specs.Cow.{device_below, device_of}
use Rattle.cow_pages.specs.ReadingLaws.{reads_joined}
use Rattle.kv_store.specs.declared.page_store.PageStore.{PageStore}
use Rattle.kv_store.specs.PageStore.{pages_of}
use Rattle.kv_store.specs.Opening.{IsOpened}
use Rattle.kv_store.specs.Unwritten.{WritesNothing}

-- a store that was opened, and then only read
module _ {D : Type 0} {g : Ghosts D} (d : DeviceState) (s t : PageStore D g) (opened : IsOpened d s) (nothing : WritesNothing (pages_of s) (pages_of t)) where
  pub history_since : KeepsHistory d (device_below (pages_of t))
  history_since = history_joined d (device_below (pages_of s)) (device_below (pages_of t)) opened.history nothing.preserved.preserved.history

  pub content_since : ((device : D) → (g.state device).faithful → IsPresent (timeline (g.state device))) → d.faithful → KeepsContent d (device_below (pages_of t))
  content_since present faithful =
      let still = opened.history.faithful faithful in
      reads_joined d (device_below (pages_of s)) (device_below (pages_of t)) opened.history (opened.content faithful)
      (nothing.content (record { faithful = still; present = present (device_of (pages_of s)) still }))
