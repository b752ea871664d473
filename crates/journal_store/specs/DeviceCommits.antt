-- What a commit of a store on a device does beyond what that of each store does, by its kind.
use Rattle.std.specs.Prelude.{◌≡◌, ◌≢◌, ◌+◌, Result, OnOk}
use Rattle.sector_device.specs.declared.device.Device.{Ghosts}
use Rattle.store.specs.Records.{Changes}
use Rattle.store.specs.Store.{Contents, stored}
use Rattle.store.specs.declared.fault.StoreFault.{StoreFault}
use Rattle.kv_store.specs.declared.page_store.PageStore.{PageStore}
use Rattle.kv_store.specs.declared.reserve.Reserve.{Reserve}
use Rattle.kv_store.specs.PageStore.{store_state as pages_state}
use Rattle.kv_store.specs.TreeStore.{CommitsWhole, CountsCommit, IsStill}
use Rattle.journal_store.specs.Commits.{CommitsInJournal}
use Rattle.journal_store.specs.declared.device_stores.DeviceStore.{DeviceStore}
use Rattle.journal_store.specs.declared.device_stores.DeviceStore.TheVariants.{Pages, Journaled}

-- what the commit of these changes, which make other contents so, does in pages alone
pub record CommitsInPages {D : Type 0} {g : Ghosts D} (reserve : Reserve) (changes : Changes) (changed : Contents → Contents) (result : Result (Unit {0}) StoreFault) (old new : PageStore D g) : Type 0 where
  pub whole : CommitsWhole reserve changes changed result old.tree new.tree
  pub rises : (pages_state old).sound → stored (pages_state old) ≢ changed (stored (pages_state old)) → OnOk result ((pages_state new).number ≡ (pages_state old).number + 1)
  pub counts : CountsCommit result old.tree new.tree
  pub still : IsStill result old.tree new.tree

-- the same of a store of either kind, which stays of its kind
abbrev pub CommitsOn : {D : Type 0} {g : Ghosts D} → Reserve → Changes → (Contents → Contents) → Result (Unit {0}) StoreFault → DeviceStore D g → DeviceStore D g → Type 0
CommitsOn reserve changes changed result (Pages s) (Pages t) = CommitsInPages reserve changes changed result s t
CommitsOn reserve changes changed result (Journaled s) (Journaled t) = CommitsInJournal changes result s t
CommitsOn reserve changes changed result s t = ⊥
