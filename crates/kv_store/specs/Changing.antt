-- What committing the changes of a batch to a store does, whose root says of a journal what it said.
use Rattle.std.specs.Prelude.{◌≡◌, ◌≢◌, ◌+◌, Result, OnOk}
use Rattle.storage_sizes.specs.declared.record_format.RecordFormat.{RecordFormat}
use Rattle.sector_device.specs.Device.{KeepsHistory}
use Rattle.sector_device.specs.declared.device.Device.{Ghosts}
use Rattle.cow_pages.specs.Cow.{device_below}
use Rattle.store.specs.Records.{Changes}
use Rattle.store.specs.Contents.{changed_in}
use Rattle.store.specs.Store.{Contents, Commits, stored}
use Rattle.store.specs.declared.fault.StoreFault.{StoreFault}
use Rattle.kv_store.specs.declared.commit.RootWrite.{RootWrite}
use Rattle.kv_store.specs.declared.reserve.Reserve.{Reserve}
use Rattle.kv_store.specs.declared.tree_store.TreeStore.{TreeStore}
use Rattle.kv_store.specs.Contents.{HoldsContents, is_journaled}
use Rattle.kv_store.specs.Numbered.{LeavesNumbered}
use Rattle.kv_store.specs.Switches.{IsAnew}
use Rattle.kv_store.specs.TreeStore.{CommitsWhole, CountsCommit, pages_of, store_state}

-- the changes are committed in this record format, or none of them, and the answer is counted; a root is written as is asked for
pub record ChangesStore {D : Type 0} {g : Ghosts D} (spelled : RecordFormat) (write : RootWrite) (reserve : Reserve) (changes : Changes) (result : Result (Unit {0}) StoreFault)
    (old new : TreeStore D g) : Type 0 where
  pub kind : is_journaled (pages_of new) ≡ is_journaled (pages_of old)
  pub commits : Commits result (changed_in spelled changes (stored (store_state old))) (store_state old) (store_state new)
  pub batch : CommitsWhole reserve changes (changed_in spelled changes) result old new
  pub counts : CountsCommit result old new
  pub rises : (store_state old).sound → stored (store_state old) ≢ changed_in spelled changes (stored (store_state old))
      → OnOk result ((store_state new).number ≡ (store_state old).number + 1)
  pub history : KeepsHistory (device_below (pages_of old)) (device_below (pages_of new))
  pub anew : IsAnew write result (pages_of old) (pages_of new)
  pub numbered : (contents : Contents) → HoldsContents contents (pages_of old)
      → LeavesNumbered result contents (changed_in spelled changes contents) (pages_of old) (pages_of new)
