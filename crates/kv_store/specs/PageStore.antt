-- What a store in pages without a journal is to the code above it.
use Rattle.std.specs.Prelude.{false}
use Rattle.sector_device.specs.declared.device.Device.{Ghosts}
use Rattle.cow_pages.specs.declared.cow.CowPages.{CowPages}
use Rattle.store.specs.Store.{StoreState}
use Rattle.kv_store.specs.declared.page_store.PageStore.{PageStore}
use Rattle.kv_store.specs.TreeStore.{pages_of as tree_pages, state_read}

-- the pages of a store
abbrev pub pages_of : {D : Type 0} {g : Ghosts D} → PageStore D g → CowPages D g
pages_of s = tree_pages s.tree

-- a stop leaves of it what it leaves of the device, read as contents
abbrev pub store_state : {D : Type 0} {g : Ghosts D} → PageStore D g → StoreState
store_state s = state_read false s.tree
