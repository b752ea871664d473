-- What was written to a device since a store was opened on it.
use Rattle.sector_device.specs.Timeline.{IsPresent}
use Rattle.sector_device.specs.Device.{DeviceState, KeepsHistory, timeline, history_joined}
use Rattle.sector_device.specs.declared.device.Device.{Ghosts}
use Rattle.cow_pages.specs.Cow.{device_of as device_of_pages}
use Rattle.cow_pages.specs.Held.{KeepsContent}
use Rattle.cow_pages.specs.ReadingLaws.{reads_joined}
use Rattle.kv_store.specs.PageStore.{pages_of}
use Rattle.journal_store.specs.Stores.{held_device}
use Rattle.journal_store.specs.declared.device_stores.DeviceStore.{DeviceStore}
use Rattle.journal_store.specs.declared.device_stores.DeviceStore.TheVariants.{Pages, Journaled}
use Rattle.journal_store.specs.DeviceOpening.{IsOpened}
use Rattle.journal_store.specs.DeviceReads.{OnlyLooksInto}
use Rattle.journal_store.specs.DeviceStores.{state_under}

module _ {D : Type 0} {g : Ghosts D} where
  -- a store that was only read
  pub looks_history : (s t : DeviceStore D g) → OnlyLooksInto s t → KeepsHistory (state_under s) (state_under t)
  looks_history (Pages s) (Pages t) nothing = nothing.preserved.preserved.history
  looks_history (Journaled s) (Journaled t) keeps = keeps.nothing.preserved.preserved.history
  looks_history (Pages s) (Journaled t) looks = absurd looks
  looks_history (Journaled s) (Pages t) looks = absurd looks

  pub looks_content : (present : (device : D) → (g.state device).faithful → IsPresent (timeline (g.state device))) (s t : DeviceStore D g) → OnlyLooksInto s t → (state_under s).faithful
      → KeepsContent (state_under s) (state_under t)
  looks_content present (Pages s) (Pages t) nothing faithful = nothing.content (record { faithful = faithful; present = present (device_of_pages (pages_of s)) faithful })
  looks_content present (Journaled s) (Journaled t) keeps faithful = keeps.nothing.content (record { faithful = faithful; present = present (held_device s) faithful })
  looks_content present (Pages s) (Journaled t) looks faithful = absurd looks
  looks_content present (Journaled s) (Pages t) looks faithful = absurd looks

  -- one that was opened, and then only read
  module _ (d : DeviceState) (s t : DeviceStore D g) (opened : IsOpened d s) (looks : OnlyLooksInto s t) where
    pub history_since : KeepsHistory d (state_under t)
    history_since = history_joined d (state_under s) (state_under t) opened.history (looks_history s t looks)

    pub content_since : ((device : D) → (g.state device).faithful → IsPresent (timeline (g.state device))) → d.faithful → KeepsContent d (state_under t)
    content_since present faithful =
        reads_joined d (state_under s) (state_under t) opened.history (opened.content faithful) (looks_content present s t looks (opened.history.faithful faithful))
