-- What a store in pages, whose root says whether there is a journal, is to the code above it.
use Rattle.std.specs.Prelude.{◌≡◌, Bool, true, false, Result, Ok, Err}
use Rattle.sector_device.specs.Timeline.{read_by}
use Rattle.sector_device.specs.Device.{timeline}
use Rattle.sector_device.specs.declared.device.Device.{Ghosts}
use Rattle.pages.specs.declared.array.PageFault.{PageFault}
use Rattle.pages.specs.declared.array.PageFault.TheVariants.{Memory as NoMemory}
use Rattle.cow_pages.specs.declared.cow.CowPages.{CowPages}
use Rattle.cow_pages.specs.Cow.{device_below, root_of, has_failed, durable_array}
use Rattle.page_tree.specs.Forest.{Represents}
use Rattle.page_tree.specs.Kept.{KeepsPlace}
use Rattle.store.specs.Records.{Changes}
use Rattle.store.specs.Store.{Contents, StoreState, Rose}
use Rattle.store.specs.declared.fault.StoreFault.{StoreFault}
use Rattle.store.specs.declared.fault.StoreFault.TheVariants.{Full, Memory, Device, Number}
use Rattle.kv_store.specs.declared.tree_store.TreeStore.{TreeStore}
use Rattle.kv_store.specs.declared.reserve.Reserve.{Reserve}
use Rattle.kv_store.specs.Batches.{CommitsBatch}
use Rattle.kv_store.specs.Contents.{IsReadWith, HoldsContents, contents_of, is_journaled}

-- the pages of a store
abbrev pub pages_of : {D : Type 0} {g : Ghosts D} → TreeStore D g → CowPages D g
pages_of s = s.pages.below

-- The device is faithful, and the durable array represents contents: those that the pages hold, unless the store has
-- answered Device. The leaf that the cursor keeps, if it keeps one, is one of theirs.
pub record IsSoundStore {D : Type 0} {g : Ghosts D} (s : TreeStore D g) : Type 0 where
  pub faithful : (device_below (pages_of s)).faithful
  pub represents : Represents (contents_of (pages_of s)).records (durable_array (pages_of s))
  pub works : s.has_failed ≡ false → HoldsContents (contents_of (pages_of s)) (pages_of s)
  pub place : KeepsPlace (contents_of (pages_of s)).records s.cursor

-- a stop leaves of it what it leaves of the device, read as contents of pages with a journal or without
abbrev pub state_read : {D : Type 0} {g : Ghosts D} → Bool → TreeStore D g → StoreState
state_read journal s = record {
  sound = IsSoundStore s;
  has_failed = s.has_failed;
  closes = Unit {0};
  map = (contents_of (pages_of s)).records;
  record_format = (contents_of (pages_of s)).record_format;
  number = (root_of (pages_of s)).number;
  fulls = s.fulls;
  failures = s.failures;
  faults = (device_below (pages_of s)).failures;
  time = read_by (IsReadWith journal (root_of (pages_of s)).pages) (timeline (device_below (pages_of s)));
}

-- as its root says
abbrev pub store_state : {D : Type 0} {g : Ghosts D} → TreeStore D g → StoreState
store_state s = state_read (is_journaled (pages_of s)) s

-- a failure is counted, and stays
pub record CountsFailure {D : Type 0} {g : Ghosts D} (old new : TreeStore D g) : Type 0 where
  pub failed : new.has_failed ≡ true
  pub rose : Rose old.failures new.failures

-- a fault of a read is answered: Memory, where the device works, or else Device
abbrev pub RefusesRead : {D : Type 0} {g : Ghosts D} → PageFault → StoreFault → TreeStore D g → TreeStore D g → Type 0
RefusesRead fault Full old new = ⊥
RefusesRead fault Memory old new = (new.has_failed ≡ old.has_failed) × (has_failed (pages_of new) ≡ false)
RefusesRead fault Device old new = CountsFailure old new × (fault ≡ NoMemory → has_failed (pages_of new) ≡ true)
RefusesRead fault Number old new = ⊥

-- a fault of a commit is counted: Full and Device
abbrev pub RefusesCommit : {D : Type 0} {g : Ghosts D} → StoreFault → TreeStore D g → TreeStore D g → Type 0
RefusesCommit Full old new = (new.has_failed ≡ old.has_failed) × Rose old.fulls new.fulls
RefusesCommit Memory old new = new.has_failed ≡ old.has_failed
RefusesCommit Device old new = CountsFailure old new
RefusesCommit Number old new = new.has_failed ≡ old.has_failed

-- no failure is counted, and no full commit
pub record CountsNothing {D : Type 0} {g : Ghosts D} (old new : TreeStore D g) : Type 0 where
  pub fulls : new.fulls ≡ old.fulls
  pub failures : new.failures ≡ old.failures

-- Memory is answered only where an allocation failed, and is not counted
abbrev pub CountsRefusal : {D : Type 0} {g : Ghosts D} → PageFault → StoreFault → TreeStore D g → TreeStore D g → Type 0
CountsRefusal fault Full old new = ⊥
CountsRefusal fault Memory old new = (fault ≡ NoMemory) × (new.failures ≡ old.failures)
CountsRefusal fault Device old new = Unit {0}
CountsRefusal fault Number old new = ⊥

-- the fault of a commit is counted in its own count alone: Full as a full commit, Device as a failure
abbrev pub CountsAlone : {D : Type 0} {g : Ghosts D} → StoreFault → TreeStore D g → TreeStore D g → Type 0
CountsAlone Full old new = new.failures ≡ old.failures
CountsAlone Memory old new = CountsNothing old new
CountsAlone Device old new = new.fulls ≡ old.fulls
CountsAlone Number old new = CountsNothing old new

-- what a commit counts, by its answer
abbrev pub CountsCommit : {D : Type 0} {g : Ghosts D} → Result (Unit {0}) StoreFault → TreeStore D g → TreeStore D g → Type 0
CountsCommit (Ok x) old new = CountsNothing old new
CountsCommit (Err fault) old new = CountsAlone fault old new

-- what a read counts: a failure with Device, and nothing else
abbrev pub CountsRead : {D : Type 0} {g : Ghosts D} {T : Type 0} → Result T StoreFault → TreeStore D g → TreeStore D g → Type 0
CountsRead (Ok found) old new = CountsNothing old new
CountsRead (Err Full) old new = ⊥
CountsRead (Err Memory) old new = CountsNothing old new
CountsRead (Err Device) old new = new.fulls ≡ old.fulls
CountsRead (Err Number) old new = ⊥

-- a store that has answered Device answers it again, and nothing changes
abbrev pub IsStill : {D : Type 0} {g : Ghosts D} {T : Type 0} → Result T StoreFault → TreeStore D g → TreeStore D g → Type 0
IsStill result old new = old.has_failed ≡ true → (result ≡ Err Device) × (new ≡ old)

-- all of these changes, which change contents so, are committed to the pages or nothing of them, if they held contents
abbrev pub CommitsWhole : {D : Type 0} {g : Ghosts D} → Reserve → Changes → (Contents → Contents) → Result (Unit {0}) StoreFault → TreeStore D g → TreeStore D g → Type 0
CommitsWhole reserve changes changed result old new = old.has_failed ≡ false
    → (contents : Contents) → HoldsContents contents (pages_of old) → CommitsBatch reserve changes result contents (changed contents) (pages_of old) (pages_of new)
