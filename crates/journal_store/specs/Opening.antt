-- What opening a device with a journal does, by its answer.
use Rattle.std.specs.Prelude.{◌≡◌, ◌⊎◌, ◌/◌, ℕ, List, false, Some, None, Result, MatchResult}
use Rattle.sector_device.specs.Device.{DeviceState, KeepsHistory, HasFailed}
use Rattle.sector_device.specs.declared.device.Device.{Ghosts}
use Rattle.journal.specs.Chain.{Entry, end_of}
use Rattle.journal.specs.Journal.{IsJournal, IsGreatest}
use Rattle.journal.specs.Journals.{region_in}
use Rattle.journal.specs.Reading.{region_of, entries_of}
use Rattle.journal.specs.declared.journal.JournalRecord.{JournalRecord}
use Rattle.cow_pages.specs.declared.open.OpenFault.{OpenFault}
use Rattle.cow_pages.specs.declared.open.OpenFault.TheVariants.{WrongSize, NotADatabase, NewerFormat, Damaged, Device, Memory}
use Rattle.cow_pages.specs.Image.{first_fault}
use Rattle.cow_pages.specs.Held.{KeepsContent}
use Rattle.store.specs.Records.{Records, Changes, IsOrdered}
use Rattle.store.specs.Store.{stored}
use Rattle.transactions.specs.Views.{applied_all}
use Rattle.journal_store.specs.declared.stores.JournalStore.{JournalStore}
use Rattle.journal_store.specs.declared.opening.Replayed.{Replayed}
use Rattle.journal_store.specs.Meaning.{HasJournaledContents, IsJournalReadAs, IsNumberOf, SpellBatches, journal_start, journal_room}
use Rattle.journal_store.specs.Stores.{device_under, journal_state}

-- A fault that is named is the first one that stands in the content of a device: that of its size, its root sectors and its
-- map, or, where these have none, Damaged where the image has no contents: the root says that there is no journal, the pages
-- hold no tree of records, a sector is none that a journal of the root has, or a record spells no batch. That the device failed
-- says nothing of the content. Memory is asked for after the size and the magic are tested.
abbrev pub IsNamedFor : OpenFault → DeviceState → Type 0
IsNamedFor WrongSize d = first_fault d.sectors d.content ≡ Some WrongSize
IsNamedFor NotADatabase d = first_fault d.sectors d.content ≡ Some NotADatabase
IsNamedFor (NewerFormat format) d = first_fault d.sectors d.content ≡ Some (NewerFormat format)
IsNamedFor Damaged d = (first_fault d.sectors d.content ≡ Some Damaged)
    ⊎ ((first_fault d.sectors d.content ≡ None) × IsJournalReadAs (d.sectors / 8) d.content None)
IsNamedFor Device d = Unit {0}
IsNamedFor Memory d = (first_fault d.sectors d.content ≡ None) ⊎ (first_fault d.sectors d.content ≡ Some Damaged)

-- The store is sound, and its records are those of the content that the device had, the batches of the journal made. Its number
-- is the greatest of the root's and of those in the journal.
pub record HoldsImage {D : Type 0} {g : Ghosts D} (d : DeviceState) (s : JournalStore D g) : Type 0 where
  pub sound : (journal_state s).sound
  pub contents : HasJournaledContents (d.sectors / 8) (stored (journal_state s)) d.content
  pub number_is : IsNumberOf (journal_state s).number contents.root (region_in journal_start journal_room d.content)
  pub no_fault : first_fault d.sectors d.content ≡ None

-- nothing was written, nothing is counted yet, and the store holds what the device had
pub record IsOpened {D : Type 0} {g : Ghosts D} (d : DeviceState) (s : JournalStore D g) : Type 0 where
  pub history : KeepsHistory d (device_under s)
  pub has_not_failed : (journal_state s).has_failed ≡ false
  pub no_fulls : (journal_state s).fulls ≡ 0
  pub no_failures : (journal_state s).failures ≡ 0
  pub content : d.faithful → KeepsContent d (device_under s)
  pub holds : d.faithful → HoldsImage d s

-- the device is handed back with its content, and the fault is one that stands in it, or that of a call
pub record CannotOpen (d : DeviceState) (fault : OpenFault) (e : DeviceState) : Type 0 where
  pub history : KeepsHistory d e
  pub cause : fault ≡ Device → HasFailed d e
  pub content : d.faithful → KeepsContent d e
  pub named : d.faithful → IsNamedFor fault d

abbrev pub Opens : {D : Type 0} {g : Ghosts D} → DeviceState → Result (JournalStore D g) (D × OpenFault) → Type 0
Opens {D} {g} d result = MatchResult result (λ s. IsOpened d s) (λ e. CannotOpen d e.1 (g.state e.0))

-- these changes are the batches of records
pub record AreOf (records : List JournalRecord) (waiting : List Changes) : Type 0 where
  pub batches : List Changes
  pub spelled : SpellBatches (entries_of records) batches
  pub waits : (es : Records) → IsOrdered es → applied_all waiting es ≡ applied_all batches es

-- the sectors are the journal of a root, the batches of whose records are these changes
pub record IsReplayed (root : ℕ) (sectors : List (List ℕ)) (replayed : Replayed) : Type 0 where
  pub es : List Entry
  pub is : IsJournal (region_of journal_room sectors) root journal_room es
  pub top : IsGreatest replayed.top (region_of journal_room sectors)
  pub end_is : end_of 0 es ≡ replayed.end
  pub batches : List Changes
  pub spelled : SpellBatches es batches
  pub waits : (records : Records) → IsOrdered records → applied_all replayed.waiting records ≡ applied_all batches records

-- they are no journal of the root whose records spell batches
abbrev pub NotReplayed : ℕ → List (List ℕ) → Type 0
NotReplayed root sectors = (es : List Entry) (batches : List Changes) → IsJournal (region_of journal_room sectors) root journal_room es → SpellBatches es batches → ⊥
