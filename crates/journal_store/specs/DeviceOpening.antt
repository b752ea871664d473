-- What opening a store on a device does, by its answer.
use Rattle.std.specs.Prelude.{◌≡◌, ◌⊎◌, ◌/◌, Bool, true, false, Some, None, Result, MatchResult}
use Rattle.sector_device.specs.Device.{DeviceState, KeepsHistory, HasFailed}
use Rattle.sector_device.specs.declared.device.Device.{Ghosts}
use Rattle.store.specs.Store.{StoreState, stored}
use Rattle.cow_pages.specs.declared.open.OpenFault.{OpenFault}
use Rattle.cow_pages.specs.declared.open.OpenFault.TheVariants.{WrongSize, NotADatabase, NewerFormat, Damaged, Device, Memory}
use Rattle.cow_pages.specs.Image.{first_fault}
use Rattle.cow_pages.specs.Held.{KeepsContent}
use Rattle.journal_store.specs.Opening.{CannotOpen as CannotOpenJournal}
use Rattle.journal_store.specs.declared.device_stores.DeviceStore.{DeviceStore}
use Rattle.journal_store.specs.DeviceImages.{HasContents, IsReadAs}
use Rattle.journal_store.specs.DeviceStores.{state_under, store_state}

-- A fault that is named is the first one that stands in the content of a device: that of its size, its root sectors and its
-- map, or, where these have none, Damaged where the image has no contents: the pages hold no tree of records, or the root says that
-- there is a journal and the sectors behind the root sectors are none of it. That the device failed says nothing of the content.
-- Memory is asked for after the size and the magic are tested.
abbrev pub IsNamedFor : OpenFault → DeviceState → Type 0
IsNamedFor WrongSize d = first_fault d.sectors d.content ≡ Some WrongSize
IsNamedFor NotADatabase d = first_fault d.sectors d.content ≡ Some NotADatabase
IsNamedFor (NewerFormat format) d = first_fault d.sectors d.content ≡ Some (NewerFormat format)
IsNamedFor Damaged d = (first_fault d.sectors d.content ≡ Some Damaged)
    ⊎ ((first_fault d.sectors d.content ≡ None) × IsReadAs (d.sectors / 8) d.content None)
IsNamedFor Device d = Unit {0}
IsNamedFor Memory d = (first_fault d.sectors d.content ≡ None) ⊎ (first_fault d.sectors d.content ≡ Some Damaged)

-- The store is sound, and its contents and its number are those of the content that the device had. No fault stands in that
-- content: so the device has a size that a database may have, which its root names.
pub record HoldsImage (d : DeviceState) (s : StoreState) : Type 0 where
  pub sound : s.sound
  pub contents : HasContents (d.sectors / 8) (stored s) d.content
  pub number_is : contents.number ≡ s.number
  pub no_fault : first_fault d.sectors d.content ≡ None

-- nothing was written, nothing is counted yet, and the store holds what the device had
pub record IsOpened {D : Type 0} {g : Ghosts D} (d : DeviceState) (s : DeviceStore D g) : Type 0 where
  pub history : KeepsHistory d (state_under s)
  pub has_not_failed : (store_state s).has_failed ≡ false
  pub no_fulls : (store_state s).fulls ≡ 0
  pub no_failures : (store_state s).failures ≡ 0
  pub content : d.faithful → KeepsContent d (state_under s)
  pub holds : d.faithful → HoldsImage d (store_state s)

-- the device is handed back with its content, and the fault is one that stands in it, or that of a call
pub record CannotOpen (d : DeviceState) (fault : OpenFault) (e : DeviceState) : Type 0 where
  pub history : KeepsHistory d e
  pub cause : fault ≡ Device → HasFailed d e
  pub content : d.faithful → KeepsContent d e
  pub named : d.faithful → IsNamedFor fault d

abbrev pub Opens : {D : Type 0} {g : Ghosts D} → DeviceState → Result (DeviceStore D g) (D × OpenFault) → Type 0
Opens {D} {g} d result = MatchResult result (λ s. IsOpened d s) (λ e. CannotOpen d e.1 (g.state e.0))

-- the same of a device as one whose root says that there is a journal, where another fault is one of such a device
abbrev pub OpensJournaled : {D : Type 0} {g : Ghosts D} → DeviceState → Result (DeviceStore D g) (D × OpenFault) → Type 0
OpensJournaled {D} {g} d result = MatchResult result (λ s. IsOpened d s) (λ e. CannotOpenJournal d e.1 (g.state e.0))

-- whether the fault is that the content is damaged
abbrev pub is_damaged : OpenFault → Bool
is_damaged WrongSize = false
is_damaged NotADatabase = false
is_damaged (NewerFormat format) = false
is_damaged Damaged = true
is_damaged Device = false
is_damaged Memory = false
