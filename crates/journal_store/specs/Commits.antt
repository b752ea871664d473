-- What a commit of a store with a journal does beyond what that of each store does: why it finds no room, and what its number is.
use Rattle.std.specs.Prelude.{◌≡◌, ◌≢◌, ◌⊎◌, ◌<◌, ◌≤◌, ◌+◌, [], Result, Err, OnOk}
use Rattle.sector_device.specs.Device.{KeepsHistory}
use Rattle.sector_device.specs.declared.device.Device.{Ghosts}
use Rattle.store.specs.Records.{Records, Changes, IsOrdered}
use Rattle.store.specs.Store.{stored}
use Rattle.store.specs.declared.fault.StoreFault.{StoreFault}
use Rattle.store.specs.declared.fault.StoreFault.TheVariants.{Full}
use Rattle.transactions.specs.Views.{applied_all}
use Rattle.journal_store.specs.declared.stores.JournalStore.{JournalStore}
use Rattle.journal_store.specs.Reads.{IsStill}
use Rattle.journal_store.specs.Room.{HadNoRoomFor}
use Rattle.journal_store.specs.Stores.{device_under, root_number, IsSoundJournal, journal_state}

-- what waits changes nothing
abbrev pub NothingWaits : {D : Type 0} {g : Ghosts D} → JournalStore D g → Type 0
NothingWaits s = (records : Records) → IsOrdered records → applied_all s.waiting records ≡ records

-- a later state of the store and of its device, in which it contains what it contained, under the same number
pub record ContainsTheSame {D : Type 0} {g : Ghosts D} (old later : JournalStore D g) : Type 0 where
  pub sound : IsSoundJournal later
  pub same : stored (journal_state later) ≡ stored (journal_state old)
  pub number : (journal_state later).number ≡ (journal_state old).number
  pub history : KeepsHistory (device_under old) (device_under later)

-- Nothing waited, or what waited had been brought into the pages, and there these had no room for the batch. Or they had none for
-- what waits by itself.
pub record HadNoRoomBehind {D : Type 0} {g : Ghosts D} (batch : Changes) (old : JournalStore D g) : Type 0 where
  pub later : JournalStore D g
  pub since : ContainsTheSame old later
  pub none : (NothingWaits later × HadNoRoomFor batch later) ⊎ ((later.waiting ≡ old.waiting) × HadNoRoomFor [] later)

-- Why a commit is Full. In the second case the records that wait have no number above that of the root. Two new roots would raise the
-- number of the store by two then, so what waits and the batch are tried at once alone. No record that is appended is such a one.
abbrev pub HadNoRoomLeft : {D : Type 0} {g : Ghosts D} → Changes → JournalStore D g → Type 0
HadNoRoomLeft batch old = HadNoRoomBehind batch old ⊎ ((old.top ≤ root_number old) × HadNoRoomFor batch old)

-- a record was appended behind the same root, under the next number; or there is a newer root, behind which nothing waits
abbrev pub IsRecordOrRoot : {D : Type 0} {g : Ghosts D} → JournalStore D g → JournalStore D g → Type 0
IsRecordOrRoot old new =
    ((root_number new ≡ root_number old) × ((journal_state new).number ≡ (journal_state old).number + 1))
    ⊎ ((root_number old < root_number new) × (new.waiting ≡ []))

-- what the commit of a batch does with a journal
pub record CommitsInJournal {D : Type 0} {g : Ghosts D} (batch : Changes) (result : Result (Unit {0}) StoreFault) (old new : JournalStore D g) : Type 0 where
  pub room : IsSoundJournal old → result ≡ Err Full → HadNoRoomLeft batch old
  pub rises : IsSoundJournal old → batch ≢ [] → OnOk result (IsRecordOrRoot old new)
  pub still : IsStill result old new
