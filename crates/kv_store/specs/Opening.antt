-- What opening a store does, by its answer.
use Rattle.std.specs.Prelude.{◌≡◌, ◌⊎◌, ◌/◌, Bool, false, Some, None, Result, MatchResult}
use Rattle.sector_device.specs.Device.{DeviceState, KeepsHistory, HasFailed}
use Rattle.sector_device.specs.declared.device.Device.{Ghosts}
use Rattle.store.specs.Store.{StoreState, stored}
use Rattle.cow_pages.specs.declared.open.OpenFault.{OpenFault}
use Rattle.cow_pages.specs.declared.open.OpenFault.TheVariants.{WrongSize, NotADatabase, NewerFormat, Damaged, Device, Memory}
use Rattle.cow_pages.specs.Image.{first_fault}
use Rattle.cow_pages.specs.Held.{KeepsContent}
use Rattle.cow_pages.specs.Cow.{device_below}
use Rattle.kv_store.specs.declared.tree_store.TreeStore.{TreeStore}
use Rattle.kv_store.specs.declared.page_store.PageStore.{PageStore}
use Rattle.kv_store.specs.Contents.{HasContentsWith, IsReadWith}
use Rattle.kv_store.specs.TreeStore.{pages_of as tree_pages, store_state as tree_state}
use Rattle.kv_store.specs.PageStore.{pages_of, store_state}

-- A fault that is named is the first one that stands in the content of a device: that of its size, its root sectors and its
-- map, or, where these have none, Damaged where the root says otherwise than asked whether there is a journal, or the pages
-- hold no tree of records. That the device failed says nothing of the content. Memory is asked for after the size and the
-- magic are tested.
abbrev pub IsNamedWith : Bool → OpenFault → DeviceState → Type 0
IsNamedWith journal WrongSize d = first_fault d.sectors d.content ≡ Some WrongSize
IsNamedWith journal NotADatabase d = first_fault d.sectors d.content ≡ Some NotADatabase
IsNamedWith journal (NewerFormat format) d = first_fault d.sectors d.content ≡ Some (NewerFormat format)
IsNamedWith journal Damaged d = (first_fault d.sectors d.content ≡ Some Damaged)
    ⊎ ((first_fault d.sectors d.content ≡ None) × IsReadWith journal (d.sectors / 8) d.content None)
IsNamedWith journal Device d = Unit {0}
IsNamedWith journal Memory d = (first_fault d.sectors d.content ≡ None) ⊎ (first_fault d.sectors d.content ≡ Some Damaged)

-- The store is sound, and its records and its number are those of the content that the device had. No fault stands in that
-- content: so the device has a size that a database may have, which its root names.
pub record HoldsImage (journal : Bool) (d : DeviceState) (s : StoreState) : Type 0 where
  pub sound : s.sound
  pub contents : HasContentsWith journal (d.sectors / 8) (stored s) d.content
  pub number_is : contents.number ≡ s.number
  pub no_fault : first_fault d.sectors d.content ≡ None

-- nothing was written, nothing is counted yet, and the store holds what the device had
pub record IsOpenedWith (journal : Bool) (d e : DeviceState) (s : StoreState) : Type 0 where
  pub history : KeepsHistory d e
  pub has_not_failed : s.has_failed ≡ false
  pub no_fulls : s.fulls ≡ 0
  pub no_failures : s.failures ≡ 0
  pub content : d.faithful → KeepsContent d e
  pub holds : d.faithful → HoldsImage journal d s

-- the device is handed back with its content, and the fault is one that stands in it, or that of a call
pub record CannotOpenWith (journal : Bool) (d : DeviceState) (fault : OpenFault) (e : DeviceState) : Type 0 where
  pub history : KeepsHistory d e
  pub cause : fault ≡ Device → HasFailed d e
  pub content : d.faithful → KeepsContent d e
  pub named : d.faithful → IsNamedWith journal fault d

-- pages with a journal, or pages without
abbrev pub OpensWith : {D : Type 0} {g : Ghosts D} → Bool → DeviceState → Result (TreeStore D g) (D × OpenFault) → Type 0
OpensWith {D} {g} journal d result =
    MatchResult result (λ s. IsOpenedWith journal d (device_below (tree_pages s)) (tree_state s)) (λ e. CannotOpenWith journal d e.1 (g.state e.0))

-- the same of pages without one
abbrev pub IsNamedFor : OpenFault → DeviceState → Type 0
IsNamedFor fault d = IsNamedWith false fault d

abbrev pub IsOpened : {D : Type 0} {g : Ghosts D} → DeviceState → PageStore D g → Type 0
IsOpened d s = IsOpenedWith false d (device_below (pages_of s)) (store_state s)

abbrev pub CannotOpen : DeviceState → OpenFault → DeviceState → Type 0
CannotOpen d fault e = CannotOpenWith false d fault e

abbrev pub Opens : {D : Type 0} {g : Ghosts D} → DeviceState → Result (PageStore D g) (D × OpenFault) → Type 0
Opens {D} {g} d result = MatchResult result (λ s. IsOpened d s) (λ e. CannotOpen d e.1 (g.state e.0))
