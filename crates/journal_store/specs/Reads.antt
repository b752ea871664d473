-- What reads of a store with a journal leave alone, and what a walk over it has ahead.
use Rattle.std.specs.Prelude.{ℕ, List, true, Result, Err}
use Rattle.std.proofs.Common.{◌≡◌, refl, ◌∙◌}
use Rattle.sector_device.specs.Timeline.{IsPresent}
use Rattle.sector_device.proofs.Runs.{present_lifted}
use Rattle.sector_device.specs.Device.{timeline}
use Rattle.sector_device.specs.declared.device.Device.{Ghosts}
use Rattle.cow_pages.specs.Cow.{root_of}
use Rattle.page_tree.specs.Ahead.{IsFoundBy}
use Rattle.page_tree.specs.declared.tree_walk.TreeWalk.{TreeWalk}
use Rattle.store.specs.declared.fault.StoreFault.{StoreFault}
use Rattle.store.specs.declared.fault.StoreFault.TheVariants.{Device}
use Rattle.store.specs.Records.{Record, Records, IsOrdered, entries_where}
use Rattle.store.specs.Walks.{is_within}
use Rattle.transactions.specs.Views.{ordered_view}
use Rattle.transactions.specs.Calls.{KeepsRecords, records_same, records_joined}
use Rattle.transactions.specs.Places.{AreAhead, AreAheadTo, IsFoundAt, ahead_cut as cut_under, ahead_later}
use Rattle.transactions.specs.declared.place.ViewPlace.{ViewPlace}
use Rattle.kv_store.specs.TreeStore.{pages_of, store_state}
use Rattle.kv_store.specs.TreeLaws.{keys_rise}
use Rattle.kv_store.specs.Unwritten.{WritesNothing}
use Rattle.kv_store.specs.UnwrittenLaws.{nothing_written, nothing_written_joined}
use Rattle.kv_store.specs.Walks.{AreAhead as AreAheadInPages, AreAheadWithin, ahead_later as later_in_pages}
use Rattle.journal_store.specs.declared.stores.JournalStore.{JournalStore}
use Rattle.journal_store.specs.Images.{IsReadAs}
use Rattle.journal_store.specs.Stores.{device_under, base_of, IsSoundJournal, journal_state}

-- what waits is as it was, and nothing was written
pub record KeepsJournal {D : Type 0} {g : Ghosts D} (old new : JournalStore D g) : Type 0 where
  pub waiting : new.waiting ≡ old.waiting
  pub top : new.top ≡ old.top
  pub ends : new.end ≡ old.end
  pub nothing : WritesNothing (pages_of old.store) (pages_of new.store)
  pub records : KeepsRecords (store_state old.store) (store_state new.store)

-- no read at all
pub keeps_same : {D : Type 0} {g : Ghosts D} (s : JournalStore D g) → KeepsJournal s s
keeps_same s = record { waiting = refl; top = refl; ends = refl; nothing = nothing_written (pages_of s.store); records = records_same (store_state s.store) }

-- reads, and then reads
pub keeps_joined : {D : Type 0} {g : Ghosts D} (old mid new : JournalStore D g) → KeepsJournal old mid → KeepsJournal mid new → KeepsJournal old new
keeps_joined old mid new first second = record {
  waiting = second.waiting ∙ first.waiting;
  top = second.top ∙ first.top;
  ends = second.ends ∙ first.ends;
  nothing = nothing_written_joined (pages_of old.store) (pages_of mid.store) (pages_of new.store) first.nothing second.nothing;
  records = records_joined (store_state old.store) (store_state mid.store) (store_state new.store) first.records second.records;
}

-- a store that has answered Device answers it again, and nothing changes
abbrev pub IsStill : {D : Type 0} {g : Ghosts D} {T : Type 0} → Result T StoreFault → JournalStore D g → JournalStore D g → Type 0
IsStill result old new = old.store.has_failed ≡ true → (result ≡ Err Device) × (new ≡ old)

-- these records are ahead of a place
abbrev pub IsAhead : {D : Type 0} {g : Ghosts D} → JournalStore D g → ViewPlace TreeWalk → Records → Type 0
IsAhead s place records = AreAhead (λ walk es. AreAheadInPages s.store walk es) s.waiting (store_state s.store) place records

-- and these up to a stop
abbrev pub IsAheadWithin : {D : Type 0} {g : Ghosts D} → JournalStore D g → List ℕ → ViewPlace TreeWalk → Records → Type 0
IsAheadWithin s stop place records = AreAheadTo (λ walk es. AreAheadWithin s.store stop walk es) stop s.waiting (store_state s.store) place records

-- the last step to a place found this record
abbrev pub IsFoundIn : ViewPlace TreeWalk → Record → Type 0
IsFoundIn place found = IsFoundAt (λ walk e. IsFoundBy walk e) place found

-- what is ahead still is after reads
pub ahead_stays : {D : Type 0} {g : Ghosts D} (s later : JournalStore D g) (place : ViewPlace TreeWalk) (records : Records) → KeepsJournal s later → IsAhead s place records → IsAhead later place records
ahead_stays s later place records keeps is =
    ahead_later (λ walk es. AreAheadInPages s.store walk es) (λ walk es. AreAheadInPages later.store walk es) s.waiting later.waiting (store_state s.store) (store_state later.store)
    (λ walk es ahead. later_in_pages s.store later.store walk es keeps.nothing ahead) keeps.waiting keeps.records place records is

-- of what is ahead that part is ahead up to a stop which is within it
pub ahead_cut : {D : Type 0} {g : Ghosts D} (s : JournalStore D g) (stop : List ℕ) (place : ViewPlace TreeWalk) (records : Records) → IsOrdered records → IsAhead s place records → IsAheadWithin s stop place (entries_where (is_within stop) records)
ahead_cut s stop place records rise is =
    cut_under (λ walk es. AreAheadInPages s.store walk es) (λ walk es. AreAheadWithin s.store stop walk es) stop s.waiting (store_state s.store) (λ sound. keys_rise s.store sound)
    (λ walk rest rises at. (rest, refl, rises, at)) place records rise is

-- the keys of a sound store's records rise
pub records_rise : {D : Type 0} {g : Ghosts D} (s : JournalStore D g) → IsSoundJournal s → IsOrdered (journal_state s).map
records_rise s sound = ordered_view s.waiting (base_of s).records (keys_rise s.store sound.pages)

-- a stop now leaves what it may leave now
pub present_in : {D : Type 0} {g : Ghosts D} (s : JournalStore D g) → IsPresent (timeline (device_under s)) → IsPresent (journal_state s).time
present_in s present = present_lifted (IsReadAs (root_of (pages_of s.store)).pages) (timeline (device_under s)) present
