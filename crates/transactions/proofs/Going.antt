-- A scan of a view that has gone on past entries which its changes remove.
use Rattle.std.proofs.Common.{◌≡◌, ℕ, Bool, List, Ok, Err, refl, ap, sym, ◌∙◌, subst}
use Rattle.sector_device.specs.Timeline.{IsPresent}
use Rattle.store.specs.Records.{Record, Changes, IsFound, first_from}
use Rattle.store.specs.declared.fault.StoreFault.{StoreFault}
use Rattle.store.specs.Store.{StoreState, HasReadCause, OnlyReads, Reads, failed_after}
use Rattle.store.proofs.Reading.{none_read, reads_joined, cause_later}
use Rattle.transactions.specs.Views.{applied_all, view_state}
use Rattle.transactions.proofs.Viewing.{view_answered, view_refused}

-- from the one key on the view has the same least entry as from the other, and so far the map was only read
pub record GoesOn (lists : List Changes) (key from : List ℕ) (old now : StoreState) : Type 0 where
  pub only_reads : OnlyReads old now
  pub same : now.has_failed ≡ old.has_failed
  pub found : old.sound → first_from from (applied_all lists old.map) ≡ first_from key (applied_all lists old.map)

-- nothing was read yet
pub begun : (lists : List Changes) (key from : List ℕ) (s : StoreState) → (s.sound → IsPresent s.time) → from ≡ key → GoesOn lists key from s s
begun lists key from s present is = record {
  only_reads = none_read s present;
  same = refl;
  found = λ sound. ap (λ (k : List ℕ). first_from k (applied_all lists s.map)) is;
}

-- the map is what it was
still : {old mid : StoreState} (lists : List Changes) → OnlyReads old mid → old.sound → applied_all lists mid.map ≡ applied_all lists old.map
still lists reads sound = ap (applied_all lists) (reads.unchanged sound).map

pub goes_further : (lists : List Changes) (key from later : List ℕ) (old mid new : StoreState) → GoesOn lists key from old mid → OnlyReads mid new → new.has_failed ≡ mid.has_failed
    → (mid.sound → first_from later (applied_all lists mid.map) ≡ first_from from (applied_all lists mid.map)) → GoesOn lists key later old new
goes_further lists key from later old mid new goes reads same further = record {
  only_reads = reads_joined old mid new goes.only_reads reads;
  same = same ∙ goes.same;
  found = λ sound.
      let is = still lists goes.only_reads sound in
      ap (first_from later) (sym is) ∙ further (goes.only_reads.history.sound sound) ∙ ap (first_from from) is ∙ goes.found sound;
}

pub goes_to_the_end : (lists : List Changes) (key from : List ℕ) (found : Bool) (out : Record) (old mid new : StoreState) → GoesOn lists key from old mid → OnlyReads mid new → new.has_failed ≡ mid.has_failed
    → (mid.sound → IsFound found out (first_from from (applied_all lists mid.map)))
    → Reads (first_from key (applied_all lists old.map)) (Ok found) out (view_state lists old) (view_state lists new)
goes_to_the_end lists key from found out old mid new goes reads same is =
    view_answered lists (first_from key (applied_all lists old.map)) found out old new (reads_joined old mid new goes.only_reads reads) (same ∙ goes.same)
    (λ sound. subst (λ e. IsFound found out e) (ap (first_from from) (still lists goes.only_reads sound) ∙ goes.found sound) (is (goes.only_reads.history.sound sound)))

pub goes_to_a_fault : (lists : List Changes) (key from : List ℕ) (fault : StoreFault) (out : Record) (old mid new : StoreState) → GoesOn lists key from old mid → OnlyReads mid new
    → new.has_failed ≡ failed_after {T = Bool} (Err fault) mid.has_failed → HasReadCause fault mid new
    → Reads (first_from key (applied_all lists old.map)) (Err fault) out (view_state lists old) (view_state lists new)
goes_to_a_fault lists key from fault out old mid new goes reads failed cause =
    view_refused lists (first_from key (applied_all lists old.map)) fault out old new (reads_joined old mid new goes.only_reads reads)
    (failed ∙ ap (λ (b : Bool). failed_after {T = Bool} (Err fault) b) goes.same)
    (cause_later fault old mid new goes.only_reads.history goes.same reads.history cause)
