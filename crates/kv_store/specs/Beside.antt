-- What a write of sectors beside the pages is to a store in pages.
use Rattle.std.specs.Prelude.{◌≡◌, ◌≤◌, ◌⊎◌, true, Result, MatchResult}
use Rattle.sector_device.specs.Device.{HasFailed}
use Rattle.sector_device.specs.declared.device.Device.{Ghosts}
use Rattle.cow_pages.specs.Cow.{device_below, root_of}
use Rattle.store.specs.Store.{Contents}
use Rattle.store.specs.declared.fault.StoreFault.{StoreFault}
use Rattle.store.specs.declared.fault.StoreFault.TheVariants.{Device}
use Rattle.kv_store.specs.declared.tree_store.TreeStore.{TreeStore}
use Rattle.kv_store.specs.Contents.{HoldsContents, contents_of}
use Rattle.kv_store.specs.TreeStore.{IsSoundStore, CountsNothing, CountsFailure, pages_of}

-- the store has the contents that it had, under the same root, whatever the device did
pub record KeepsStore {D : Type 0} {g : Ghosts D} (old new : TreeStore D g) : Type 0 where
  pub sound : IsSoundStore old → IsSoundStore new
  pub contents : IsSoundStore old → contents_of (pages_of new) ≡ contents_of (pages_of old)
  pub root : root_of (pages_of new) ≡ root_of (pages_of old)
  pub fulls : new.fulls ≡ old.fulls
  pub failures : old.failures ≤ new.failures

-- the sectors are written, and the pages hold what they held
pub record IsWrittenBeside {D : Type 0} {g : Ghosts D} (old new : TreeStore D g) : Type 0 where
  pub works : new.has_failed ≡ old.has_failed
  pub counts : CountsNothing old new
  pub holds : (contents : Contents) → HoldsContents contents (pages_of old) → HoldsContents contents (pages_of new)

-- the device failed in the call, or the store had failed before
pub record FailsBeside {D : Type 0} {g : Ghosts D} (old new : TreeStore D g) : Type 0 where
  pub failed : new.has_failed ≡ true
  pub cause : (old.has_failed ≡ true) ⊎ (CountsFailure old new × (IsSoundStore old → HasFailed (device_below (pages_of old)) (device_below (pages_of new))))

abbrev pub WritesBeside : {D : Type 0} {g : Ghosts D} → Result (Unit {0}) StoreFault → TreeStore D g → TreeStore D g → Type 0
WritesBeside result old new = MatchResult result (λ _. IsWrittenBeside old new) (λ fault. (fault ≡ Device) × FailsBeside old new)
