-- What turning the journal of a store on does, by its answer.
use Rattle.std.specs.Prelude.{◌≡◌, ◌⊎◌, ◌+◌, ◌-◌, ◌^◌, ◌/◌, ℕ, false, Result, MatchResult}
use Rattle.storage_sizes.specs.declared.record_format.RecordFormat.TheVariants.{V1}
use Rattle.sector_device.specs.Device.{DeviceState, Image, IsLeft, KeepsSize}
use Rattle.sector_device.specs.declared.device.Device.{Ghosts}
use Rattle.cow_pages.specs.Held.{KeepsContent}
use Rattle.cow_pages.specs.declared.cow.CowPages.{CowPages}
use Rattle.store.specs.Store.{Contents}
use Rattle.store.specs.declared.fault.StoreFault.TheVariants.{Full, Memory, Device, Number}
use Rattle.kv_store.specs.Numbered.{HasContentsUnder}
use Rattle.journal_store.specs.Formatting.{HasNoParts}
use Rattle.journal_store.specs.Images.{IsJournaledUnder}
use Rattle.journal_store.specs.DeviceOpening.{CannotOpen}
use Rattle.journal_store.specs.declared.switch_fault.SwitchFault.{SwitchFault}
use Rattle.journal_store.specs.declared.switch_fault.SwitchFault.TheVariants.{Unopened, NotMigrated, Refused}
use Rattle.journal_store.specs.Beginning.{HadNoMapRoom}
use Rattle.journal_store.specs.Faults.{KeepsContents, IsFailed}

-- there was a journal, and nothing was written
pub record WasOn (number : ℕ) (contents : Contents) (d e : DeviceState) : Type 0 where
  pub had : IsJournaledUnder (d.sectors / 8) number contents d.content
  pub content : KeepsContent d e

-- there was none: the number is that of the next root, and nothing stands in the journal
pub record WasOff (number : ℕ) (contents : Contents) (d e : DeviceState) : Type 0 where
  pub before : ℕ
  pub had : HasContentsUnder false (d.sectors / 8) before contents d.content
  pub by_one : number ≡ before + 1
  pub none : (image : Image) → IsLeft e image → HasNoParts image

-- a stop leaves the contents that the device had, with a journal, under this number
pub record IsOn (number : ℕ) (d e : DeviceState) : Type 0 where
  pub contents : Contents
  pub keeps : KeepsContents contents d e
  pub left : (image : Image) → IsLeft e image → IsJournaledUnder (d.sectors / 8) number contents image
  pub how : WasOn number contents d e ⊎ WasOff number contents d e

-- No root was written. For this cause a stop leaves the contents that the device had, without a journal, under the number that they had.
pub record IsStillOff (Cause : Contents → ℕ → Type 0) (d e : DeviceState) : Type 0 where
  pub contents : Contents
  pub number : ℕ
  pub had : HasContentsUnder false (d.sectors / 8) number contents d.content
  pub keeps : KeepsContents contents d e
  pub left : (image : Image) → IsLeft e image → HasContentsUnder false (d.sectors / 8) number contents image
  pub cause : Cause contents number

-- nothing was written, and the records are of record format 1
pub record IsNotMigrated (d e : DeviceState) : Type 0 where
  pub content : KeepsContent d e
  pub number : ℕ
  pub contents : Contents
  pub had : HasContentsUnder false (d.sectors / 8) number contents d.content
  pub first : contents.record_format ≡ V1

abbrev pub CannotTurnOn : {D : Type 0} (g : Ghosts D) → SwitchFault → DeviceState → DeviceState → Type 0
CannotTurnOn g (Unopened fault) d e = CannotOpen d fault e
CannotTurnOn g NotMigrated d e = IsNotMigrated d e
CannotTurnOn {D} g (Refused Full) d e = IsStillOff (λ contents number. (pages : CowPages D g) × HadNoMapRoom contents number d pages) d e
CannotTurnOn g (Refused Memory) d e = ⊥
CannotTurnOn g (Refused Device) d e = IsFailed d e
CannotTurnOn g (Refused Number) d e = IsStillOff (λ contents number. number ≡ 2 ^ 64 - 1) d e

pub record TurnsOn {D : Type 0} (g : Ghosts D) (d : DeviceState) (result : Result ℕ SwitchFault) (e : DeviceState) : Type 0 where
  pub size : KeepsSize d e
  pub outcome : d.faithful → MatchResult result (λ number. IsOn number d e) (λ fault. CannotTurnOn g fault d e)
