-- What a store with a journal is to the code above it.
use Rattle.std.specs.Prelude.{◌≡◌, ℕ, List, false, max}
use Rattle.storage_sizes.specs.declared.record_format.RecordFormat.TheVariants.{V2}
use Rattle.sector_device.specs.Timeline.{read_by}
use Rattle.sector_device.specs.Device.{DeviceState, timeline}
use Rattle.sector_device.specs.declared.device.Device.{Ghosts}
use Rattle.journal.specs.Chain.{Entry, end_of}
use Rattle.journal.specs.Journals.{region_in, HoldsJournal}
use Rattle.cow_pages.specs.Cow.{device_of, device_below, root_of}
use Rattle.store.specs.Records.{Records, Changes, IsOrdered}
use Rattle.store.specs.Store.{Contents, StoreState}
use Rattle.transactions.specs.Views.{applied_all}
use Rattle.kv_store.specs.declared.tree_store.TreeStore.{TreeStore}
use Rattle.kv_store.specs.Contents.{contents_of}
use Rattle.kv_store.specs.TreeStore.{IsSoundStore, pages_of}
use Rattle.journal_store.specs.Meaning.{SpellBatches, IsNumberOf, journal_start, journal_room}
use Rattle.journal_store.specs.Images.{IsReadAs}
use Rattle.journal_store.specs.declared.stores.JournalStore.{JournalStore}

-- the device itself
abbrev pub held_device : {D : Type 0} {g : Ghosts D} → JournalStore D g → D
held_device s = device_of (pages_of s.store)

-- the device below the pages
abbrev pub device_under : {D : Type 0} {g : Ghosts D} → JournalStore D g → DeviceState
device_under s = device_below (pages_of s.store)

-- the contents of the pages
abbrev pub base_of : {D : Type 0} {g : Ghosts D} → JournalStore D g → Contents
base_of s = contents_of (pages_of s.store)

-- the number of the root
abbrev pub root_number : {D : Type 0} {g : Ghosts D} → JournalStore D g → ℕ
root_number s = (root_of (pages_of s.store)).number

-- how many sectors the records take
abbrev pub end_of_records : {D : Type 0} {g : Ghosts D} → JournalStore D g → ℕ
end_of_records s = s.end

-- The records of the durable root stand in the journal, which a stop leaves as it is: their batches are what waits, and they end
-- where the next one begins. No number in the journal, of whatever root, is above the top, and the greater of it and the root's is one
-- that stands there or the root's.
pub record HoldsRecords {D : Type 0} {g : Ghosts D} (s : JournalStore D g) : Type 0 where
  pub second : (base_of s).record_format ≡ V2
  pub es : List Entry
  pub holds : HoldsJournal journal_start journal_room (root_number s) s.top es (device_under s)
  pub batches : List Changes
  pub spelled : SpellBatches es batches
  pub waits : (records : Records) → IsOrdered records → applied_all s.waiting records ≡ applied_all batches records
  pub end_is : end_of 0 es ≡ s.end
  pub number_is : IsNumberOf (max (root_number s) s.top) (root_number s) (region_in journal_start journal_room (device_under s).content)

-- the pages are sound, and unless the store has answered Device the journal behind them holds what waits
pub record IsSoundJournal {D : Type 0} {g : Ghosts D} (s : JournalStore D g) : Type 0 where
  pub pages : IsSoundStore s.store
  pub works : s.store.has_failed ≡ false → HoldsRecords s

-- a store over these pages, where these changes wait and no number in the journal is above the top
abbrev pub state_with : {D : Type 0} {g : Ghosts D} → Type 0 → TreeStore D g → List Changes → ℕ → StoreState
state_with sound store waiting top = record {
  sound = sound;
  has_failed = store.has_failed;
  closes = Unit {0};
  map = applied_all waiting (contents_of (pages_of store)).records;
  record_format = (contents_of (pages_of store)).record_format;
  number = max (root_of (pages_of store)).number top;
  fulls = store.fulls;
  failures = store.failures;
  faults = (device_below (pages_of store)).failures;
  time = read_by (IsReadAs (root_of (pages_of store)).pages) (timeline (device_below (pages_of store)));
}

-- the records are those of the pages under what waits, and the number is the greater of the root's and the top
abbrev pub journal_state : {D : Type 0} {g : Ghosts D} → JournalStore D g → StoreState
journal_state s = state_with (IsSoundJournal s) s.store s.waiting s.top
