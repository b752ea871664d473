-- What making a journal behind the roots of pages does, by its answer.
use Rattle.std.specs.Prelude.{◌≡◌, ◌⊎◌, ◌+◌, ◌-◌, ◌^◌, ℕ, false, Result, MatchResult}
use Rattle.sector_device.specs.Timeline.{LeavesOnly}
use Rattle.sector_device.specs.Device.{DeviceState, Image, HasFailed, IsLeft, IsBehindRoots, timeline}
use Rattle.sector_device.specs.declared.device.Device.{Ghosts}
use Rattle.page_roots.specs.Root.{RootFields}
use Rattle.cow_pages.specs.declared.cow.CowPages.{CowPages}
use Rattle.cow_pages.specs.Cow.{device_below, root_of, HasNoRoomForMaps}
use Rattle.store.specs.Store.{Contents}
use Rattle.store.specs.declared.fault.StoreFault.{StoreFault}
use Rattle.store.specs.declared.fault.StoreFault.TheVariants.{Full, Memory, Device, Number}
use Rattle.kv_store.specs.Contents.{HoldsContents}
use Rattle.kv_store.specs.Numbered.{HasContentsUnder}
use Rattle.journal_store.specs.Formatting.{HasNoParts}
use Rattle.journal_store.specs.Images.{HasContents, IsJournaledUnder}

-- a stop leaves the contents, under the next root, which says that there is a journal, and in whose journal nothing stands
abbrev pub HasBegun : Contents → RootFields → DeviceState → Type 0
HasBegun contents root e = (image : Image) → IsLeft e image → IsJournaledUnder root.pages (root.number + 1) contents image × HasNoParts image

-- a stop leaves the contents, under the old root, which says that there is no journal
abbrev pub HasNotBegun : Contents → RootFields → DeviceState → Type 0
HasNotBegun contents root e = (image : Image) → IsLeft e image → HasContentsUnder false root.pages root.number contents image

-- The pages held these contents under a root of this number, and had no room for the map pages that a commit has to write. Each
-- sector of the device held what it held before, but those behind the root sectors.
pub record HadNoMapRoom {D : Type 0} {g : Ghosts D} (contents : Contents) (number : ℕ) (d : DeviceState) (pages : CowPages D g) : Type 0 where
  pub holds : HoldsContents contents pages
  pub number_is : (root_of pages).number ≡ number
  pub none : HasNoRoomForMaps pages
  pub content : (s : ℕ) → ((device_below pages).content s ≡ d.content s) ⊎ IsBehindRoots s

abbrev pub CannotBegin : {D : Type 0} (g : Ghosts D) → StoreFault → Contents → RootFields → DeviceState → DeviceState → Type 0
CannotBegin {D} g Full contents root d e = ((pages : CowPages D g) × HadNoMapRoom contents root.number d pages) × HasNotBegun contents root e
CannotBegin g Memory contents root d e = ⊥
CannotBegin g Device contents root d e = HasFailed d e
CannotBegin g Number contents root d e = (root.number ≡ 2 ^ 64 - 1) × HasNotBegun contents root e

-- over a device whose root was this one, a stop at any moment leaves the contents
pub record Begins {D : Type 0} (g : Ghosts D) (contents : Contents) (result : Result (Unit {0}) StoreFault) (root : RootFields) (d e : DeviceState) : Type 0 where
  pub leaves : LeavesOnly (HasContents root.pages contents) (timeline d) (timeline e)
  pub outcome : MatchResult result (λ _. HasBegun contents root e) (λ fault. CannotBegin g fault contents root d e)
