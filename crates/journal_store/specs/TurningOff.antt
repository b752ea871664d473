-- What turning the journal of a store off does, by its answer.
use Rattle.std.specs.Prelude.{◌≡◌, ◌⊎◌, ◌≤◌, ◌+◌, ◌-◌, ◌^◌, ◌/◌, ℕ, false, Result, MatchResult}
use Rattle.sector_device.specs.Device.{DeviceState, Image, IsLeft, KeepsHistory}
use Rattle.sector_device.specs.declared.device.Device.{Ghosts}
use Rattle.cow_pages.specs.Cow.{device_below, HasNoRoomForMaps}
use Rattle.cow_pages.specs.Held.{KeepsContent}
use Rattle.cow_pages.specs.declared.cow.CowPages.{CowPages}
use Rattle.store.specs.Contents.{changed_by_batch}
use Rattle.store.specs.Records.{Changes}
use Rattle.store.specs.Store.{Contents}
use Rattle.store.specs.declared.fault.StoreFault.TheVariants.{Full, Memory, Device, Number}
use Rattle.kv_store.specs.declared.reserve.Reserve.TheVariants.{Open}
use Rattle.kv_store.specs.Batches.{HadNoRoom}
use Rattle.kv_store.specs.Contents.{HoldsContents}
use Rattle.kv_store.specs.Numbered.{HasContentsUnder}
use Rattle.journal_store.specs.Images.{IsJournaledUnder}
use Rattle.journal_store.specs.DeviceOpening.{CannotOpen}
use Rattle.journal_store.specs.declared.switch_fault.SwitchFault.{SwitchFault}
use Rattle.journal_store.specs.declared.switch_fault.SwitchFault.TheVariants.{Unopened, NotMigrated, Refused}
use Rattle.journal_store.specs.Emptying.{HasNoJournalRoot}
use Rattle.journal_store.specs.Faults.{KeepsContents, IsFailed}

-- there was no journal; and where no root sector said that there is one, nothing was written
pub record HadNone (number : ℕ) (contents : Contents) (d e : DeviceState) : Type 0 where
  pub had : HasContentsUnder false (d.sectors / 8) number contents d.content
  pub unwritten : HasNoJournalRoot d.content → KeepsContent d e

-- there was one: what waited in it is in the pages, under the next root but one
pub record HadOne (number : ℕ) (contents : Contents) (d : DeviceState) : Type 0 where
  pub before : ℕ
  pub had : IsJournaledUnder (d.sectors / 8) before contents d.content
  pub by_two : number ≡ had.has.root + 2

-- a stop leaves the contents that the device had, without a journal, under this number
pub record IsOff (number : ℕ) (d e : DeviceState) : Type 0 where
  pub contents : Contents
  pub keeps : KeepsContents contents d e
  pub left : (image : Image) → IsLeft e image → HasContentsUnder false (d.sectors / 8) number contents image × HasNoJournalRoot image
  pub how : HadNone number contents d e ⊎ HadOne number contents d

-- For this cause a stop leaves the contents that the device had, with a journal still, under the number that they had or the next one.
pub record IsStillOn (Cause : Contents → ℕ → Type 0) (d e : DeviceState) : Type 0 where
  pub contents : Contents
  pub number : ℕ
  pub had : IsJournaledUnder (d.sectors / 8) number contents d.content
  pub keeps : KeepsContents contents d e
  pub number_now : ℕ
  pub left : (image : Image) → IsLeft e image → IsJournaledUnder (d.sectors / 8) number_now contents image
  pub not_back : number ≤ number_now
  pub by_one : number_now ≤ number + 1
  pub cause : Cause contents number

-- the pages of the device had no room for the changes that waited and make these contents of those of the pages
pub record HadNoRoomForWaiting {D : Type 0} (g : Ghosts D) (contents : Contents) (d : DeviceState) : Type 0 where
  pub pages : CowPages D g
  pub content : (s : ℕ) → (device_below pages).content s ≡ d.content s
  pub base : Contents
  pub holds : HoldsContents base pages
  pub waiting : Changes
  pub made : contents ≡ changed_by_batch waiting base
  pub none : HadNoRoom Open waiting base.records pages

-- once what waited was in the pages, these had no room for a map page
pub record HadNoMapRoomThen {D : Type 0} (g : Ghosts D) (contents : Contents) (d : DeviceState) : Type 0 where
  pub pages : CowPages D g
  pub history : KeepsHistory d (device_below pages)
  pub holds : HoldsContents contents pages
  pub none : HasNoRoomForMaps pages

abbrev pub CannotTurnOff : {D : Type 0} (g : Ghosts D) → SwitchFault → DeviceState → DeviceState → Type 0
CannotTurnOff g (Unopened fault) d e = CannotOpen d fault e
CannotTurnOff g NotMigrated d e = ⊥
CannotTurnOff g (Refused Full) d e = IsStillOn (λ contents number. HadNoRoomForWaiting g contents d ⊎ HadNoMapRoomThen g contents d) d e
CannotTurnOff g (Refused Memory) d e = IsStillOn (λ contents number. Unit {0}) d e
CannotTurnOff g (Refused Device) d e = IsFailed d e
CannotTurnOff g (Refused Number) d e = IsStillOn (λ contents number. 2 ^ 64 - 2 ≤ number) d e

-- no call of it writes a sector beside
pub record TurnsOff {D : Type 0} (g : Ghosts D) (d : DeviceState) (result : Result ℕ SwitchFault) (e : DeviceState) : Type 0 where
  pub history : KeepsHistory d e
  pub outcome : d.faithful → MatchResult result (λ number. IsOff number d e) (λ fault. CannotTurnOff g fault d e)
