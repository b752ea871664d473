-- What a store on a device is to the code above it, with a journal or without.
use Rattle.sector_device.specs.Device.{DeviceState}
use Rattle.sector_device.specs.declared.device.Device.{Ghosts}
use Rattle.store.specs.Store.{StoreState}
use Rattle.cow_pages.specs.Cow.{device_of as device_of_pages}
use Rattle.kv_store.specs.PageStore.{pages_of, store_state as pages_state}
use Rattle.journal_store.specs.Stores.{held_device, journal_state}
use Rattle.journal_store.specs.declared.device_stores.DeviceStore.{DeviceStore}
use Rattle.journal_store.specs.declared.device_stores.DeviceStore.TheVariants.{Pages, Journaled}
use Rattle.journal_store.specs.DeviceImages.{records_on}

-- the device below
abbrev pub device_of : {D : Type 0} {g : Ghosts D} → DeviceStore D g → D
device_of (Pages s) = device_of_pages (pages_of s)
device_of (Journaled s) = held_device s

-- its state
abbrev pub state_under : {D : Type 0} {g : Ghosts D} → DeviceStore D g → DeviceState
state_under {D} {g} s = g.state (device_of s)

-- the store of either kind
abbrev pub kind_state : {D : Type 0} {g : Ghosts D} → DeviceStore D g → StoreState
kind_state (Pages s) = pages_state s
kind_state (Journaled s) = journal_state s

-- a stop leaves of it what it leaves of the device, read as contents
abbrev pub store_state : {D : Type 0} {g : Ghosts D} → DeviceStore D g → StoreState
store_state s = record {
  sound = (kind_state s).sound;
  has_failed = (kind_state s).has_failed;
  closes = Unit {0};
  map = (kind_state s).map;
  record_format = (kind_state s).record_format;
  number = (kind_state s).number;
  fulls = (kind_state s).fulls;
  failures = (kind_state s).failures;
  faults = (state_under s).failures;
  time = records_on (state_under s);
}
