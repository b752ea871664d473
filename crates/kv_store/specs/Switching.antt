-- What a commit does that changes what the root says of a journal, and nothing else.
use Rattle.std.specs.Prelude.{◌≡◌, ◌⊎◌, ◌+◌, ◌-◌, ◌^◌, Bool, Result, MatchResult}
use Rattle.storage_sizes.specs.declared.record_format.RecordFormat.TheVariants.{V2}
use Rattle.sector_device.specs.Timeline.{LeavesOnly}
use Rattle.sector_device.specs.Device.{HasFailed, timeline}
use Rattle.sector_device.specs.declared.device.Device.{Ghosts}
use Rattle.cow_pages.specs.declared.cow.CowPages.{CowPages}
use Rattle.cow_pages.specs.Cow.{device_below, root_of, HasNoRoomForMaps}
use Rattle.store.specs.Store.{Contents}
use Rattle.store.specs.declared.fault.StoreFault.{StoreFault}
use Rattle.store.specs.declared.fault.StoreFault.TheVariants.{Full, Memory, Device, Number}
use Rattle.kv_store.specs.Contents.{HoldsContents, is_journaled}
use Rattle.kv_store.specs.Numbered.{HasContentsUnder, LeavesBefore}

-- a stop leaves the contents under the old root, or under the next one, which says this of a journal
abbrev pub LeavesSwitched : {D : Type 0} {g : Ghosts D} → Bool → Contents → CowPages D g → CowPages D g → Type 0
LeavesSwitched journal contents old new =
    LeavesOnly (λ image. HasContentsUnder (is_journaled old) (root_of old).pages (root_of old).number contents image ⊎ HasContentsUnder journal (root_of old).pages ((root_of old).number + 1) contents image)
    (timeline (device_below old)) (timeline (device_below new))

-- the pages hold the contents under the next root, which says this of a journal
pub record IsSwitched {D : Type 0} {g : Ghosts D} (journal : Bool) (contents : Contents) (old new : CowPages D g) : Type 0 where
  pub holds : HoldsContents contents new
  pub pages : (root_of new).pages ≡ (root_of old).pages
  pub kind : is_journaled new ≡ journal
  pub number_is : (root_of new).number ≡ (root_of old).number + 1
  pub leaves : LeavesSwitched journal contents old new

-- nothing is committed: the pages hold the contents under the old root
pub record IsNotSwitched {D : Type 0} {g : Ghosts D} (contents : Contents) (old new : CowPages D g) : Type 0 where
  pub holds : HoldsContents contents new
  pub root : root_of new ≡ root_of old
  pub leaves : LeavesBefore contents old new

abbrev pub CannotSwitch : {D : Type 0} {g : Ghosts D} → StoreFault → Bool → Contents → CowPages D g → CowPages D g → Type 0
CannotSwitch Full journal contents old new = HasNoRoomForMaps old × IsNotSwitched contents old new
CannotSwitch Memory journal contents old new = ⊥
CannotSwitch Device journal contents old new = HasFailed (device_below old) (device_below new) × LeavesSwitched journal contents old new
CannotSwitch Number journal contents old new = ((root_of old).number ≡ 2 ^ 64 - 1) × IsNotSwitched contents old new

abbrev pub SwitchesKind : {D : Type 0} {g : Ghosts D} → Bool → Result (Unit {0}) StoreFault → CowPages D g → CowPages D g → Type 0
SwitchesKind journal result old new = (contents : Contents) → HoldsContents contents old → contents.record_format ≡ V2
    → MatchResult result (λ _. IsSwitched journal contents old new) (λ fault. CannotSwitch fault journal contents old new)
