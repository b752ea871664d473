-- What reads of a store on a device leave alone, and what a walk over it has ahead.
use Rattle.std.proofs.Common.{refl}
use Rattle.std.specs.Prelude.{◌/◌, ℕ, List, Bool, true, false, Result, Ok, Err}
use Rattle.sector_device.specs.Timeline.{IsPresent}
use Rattle.sector_device.specs.Device.{timeline}
use Rattle.sector_device.specs.declared.device.Device.{Ghosts}
use Rattle.sector_device.proofs.Runs.{present_lifted}
use Rattle.store.specs.Records.{Record, Records, IsOrdered, entries_where}
use Rattle.store.specs.Walks.{is_within}
use Rattle.store.specs.declared.fault.StoreFault.{StoreFault}
use Rattle.store.specs.declared.fault.StoreFault.TheVariants.{Device}
use Rattle.page_tree.specs.Ahead.{IsFoundBy}
use Rattle.kv_store.specs.PageStore.{pages_of}
use Rattle.kv_store.specs.TreeLaws.{keys_rise}
use Rattle.kv_store.specs.Unwritten.{WritesNothing}
use Rattle.kv_store.specs.UnwrittenLaws.{nothing_written, nothing_written_joined}
use Rattle.kv_store.specs.Walks.{AreAhead as AreAheadInPages, AreAheadWithin as AheadInPagesWithin, ahead_later}
use Rattle.journal_store.specs.Reads.{KeepsJournal, IsAhead, IsAheadWithin, IsFoundIn, keeps_same, keeps_joined, ahead_stays as stays_in_journal, ahead_cut as cut_in_journal, records_rise}
use Rattle.journal_store.specs.declared.device_stores.DeviceStore.{DeviceStore}
use Rattle.journal_store.specs.declared.device_stores.DeviceStore.TheVariants.{Pages, Journaled}
use Rattle.journal_store.specs.declared.places.StorePlace.{StorePlace}
use Rattle.journal_store.specs.declared.places.StorePlace.TheVariants.{InPages, UnderChanges}
use Rattle.journal_store.specs.DeviceImages.{IsReadAs}
use Rattle.journal_store.specs.DeviceStores.{state_under, store_state}

-- the answer to a step from a place of a store of the other kind: none, or, where it has failed, Device
abbrev pub nowhere : Bool → Result Bool StoreFault
nowhere true = Err Device
nowhere false = Ok false

module _ {D : Type 0} {g : Ghosts D} where
  -- nothing was written, and it is a store of the same kind, where what waits waits still
  abbrev pub OnlyLooksInto : DeviceStore D g → DeviceStore D g → Type 0
  OnlyLooksInto (Pages s) (Pages t) = WritesNothing (pages_of s) (pages_of t)
  OnlyLooksInto (Journaled s) (Journaled t) = KeepsJournal s t
  OnlyLooksInto s t = ⊥

  -- no read at all
  pub looks_none : (s : DeviceStore D g) → OnlyLooksInto s s
  looks_none (Pages s) = nothing_written (pages_of s)
  looks_none (Journaled s) = keeps_same s

  -- reads, and then reads
  pub looks_joined : (s mid later : DeviceStore D g) → OnlyLooksInto s mid → OnlyLooksInto mid later → OnlyLooksInto s later
  looks_joined (Pages s) (Pages mid) (Pages later) first second = nothing_written_joined (pages_of s) (pages_of mid) (pages_of later) first second
  looks_joined (Journaled s) (Journaled mid) (Journaled later) first second = keeps_joined s mid later first second
  looks_joined (Pages s) (Pages mid) (Journaled later) first second = absurd second
  looks_joined (Pages s) (Journaled mid) later first second = absurd first
  looks_joined (Journaled s) (Pages mid) later first second = absurd first
  looks_joined (Journaled s) (Journaled mid) (Pages later) first second = absurd second

  -- these records are ahead of a place of a store of its kind
  abbrev pub AreAhead : DeviceStore D g → StorePlace → Records → Type 0
  AreAhead (Pages s) (InPages walk) records = AreAheadInPages s.tree walk records
  AreAhead (Journaled s) (UnderChanges place) records = IsAhead s place records
  AreAhead s place records = ⊥

  -- and these up to a stop
  abbrev pub AreAheadWithin : DeviceStore D g → List ℕ → StorePlace → Records → Type 0
  AreAheadWithin (Pages s) stop (InPages walk) records = AheadInPagesWithin s.tree stop walk records
  AreAheadWithin (Journaled s) stop (UnderChanges place) records = IsAheadWithin s stop place records
  AreAheadWithin s stop place records = ⊥

  -- the last step to it found this record
  abbrev pub IsFoundAt : DeviceStore D g → StorePlace → Record → Type 0
  IsFoundAt (Pages s) (InPages walk) found = IsFoundBy walk found
  IsFoundAt (Journaled s) (UnderChanges place) found = IsFoundIn place found
  IsFoundAt s place found = ⊥

  -- what is ahead still is after reads
  pub ahead_stays : (s later : DeviceStore D g) (place : StorePlace) (records : Records) → OnlyLooksInto s later → AreAhead s place records → AreAhead later place records
  ahead_stays (Pages s) (Pages later) (InPages walk) records nothing ahead = ahead_later s.tree later.tree walk records nothing ahead
  ahead_stays (Journaled s) (Journaled later) (UnderChanges place) records keeps ahead = stays_in_journal s later place records keeps ahead
  ahead_stays (Pages s) (Pages later) (UnderChanges place) records nothing ahead = absurd ahead
  ahead_stays (Journaled s) (Journaled later) (InPages walk) records keeps ahead = absurd ahead
  ahead_stays (Pages s) (Journaled later) place records nothing ahead = absurd nothing
  ahead_stays (Journaled s) (Pages later) place records nothing ahead = absurd nothing

  -- of what is ahead that part is ahead up to a stop which is within it
  pub ahead_cut : (s : DeviceStore D g) (stop : List ℕ) (place : StorePlace) (records : Records) → IsOrdered records → AreAhead s place records → AreAheadWithin s stop place (entries_where (is_within stop) records)
  ahead_cut (Pages s) stop (InPages walk) records rise ahead = (records, refl, rise, ahead)
  ahead_cut (Journaled s) stop (UnderChanges place) records rise ahead = cut_in_journal s stop place records rise ahead
  ahead_cut (Pages s) stop (UnderChanges place) records rise ahead = absurd ahead
  ahead_cut (Journaled s) stop (InPages walk) records rise ahead = absurd ahead

  -- the keys of a sound store's records rise
  pub records_rise_on : (s : DeviceStore D g) → (store_state s).sound → IsOrdered (store_state s).map
  records_rise_on (Pages s) sound = keys_rise s.tree sound
  records_rise_on (Journaled s) sound = records_rise s sound

  -- the device below a sound store is faithful
  pub faithful_under : (s : DeviceStore D g) → (store_state s).sound → (state_under s).faithful
  faithful_under (Pages s) sound = sound.faithful
  faithful_under (Journaled s) sound = sound.pages.faithful

  -- a stop now leaves what it may leave now
  pub present_on : (s : DeviceStore D g) → IsPresent (timeline (state_under s)) → IsPresent (store_state s).time
  present_on s present = present_lifted (IsReadAs ((state_under s).sectors / 8)) (timeline (state_under s)) present
