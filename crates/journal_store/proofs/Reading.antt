-- Reads of a store with a journal, which are reads of its pages under what waits.
use Rattle.std.proofs.Common.{◌≡◌, ◌+◌, ℕ, Bool, true, false, List, Option, Result, Err, inl, max, refl, sym, ap, subst, ◌∙◌, arith}
use Rattle.std.proofs.Math.Path.{fun_ext}
use Rattle.std.proofs.lemmas.Bool.{false≢true}
use Rattle.std.proofs.lemmas.Result.{IfErr-weaker}
use Rattle.sector_device.specs.Timeline.{LeavesOnly, IsPresent, read_by}
use Rattle.sector_device.proofs.Runs.{lifted}
use Rattle.sector_device.specs.Device.{Image, IsLeft, DeviceState, timeline}
use Rattle.sector_device.specs.declared.device.Device.{Ghosts}
use Rattle.page_roots.specs.Root.{RootFields}
use Rattle.journal.specs.Chain.{Entry}
use Rattle.journal.specs.Journal.{IsJournal, NumbersUpTo}
use Rattle.journal.specs.Journals.{region_in, HoldsJournal}
use Rattle.cow_pages.specs.Cow.{root_of}
use Rattle.cow_pages.specs.Held.{KeepsContent}
use Rattle.store.specs.Records.{Record, Records, Changes, IsFound}
use Rattle.store.specs.Steps.{Goes}
use Rattle.store.specs.Store.{StoreState, OnlyReads, Reads, HasReadCause}
use Rattle.store.specs.declared.fault.StoreFault.{StoreFault}
use Rattle.store.specs.declared.fault.StoreFault.TheVariants.{Full, Memory, Device, Number}
use Rattle.store.proofs.Reading.{none_read}
use Rattle.transactions.specs.Views.{applied_all, view_state}
use Rattle.transactions.specs.Calls.{KeepsRecords}
use Rattle.transactions.proofs.Viewing.{map_only_reads}
use Rattle.kv_store.specs.TreeStore.{pages_of, store_state}
use Rattle.kv_store.specs.Unwritten.{WritesNothing}
use Rattle.journal_store.specs.declared.stores.JournalStore.{JournalStore}
use Rattle.journal_store.specs.Meaning.{IsNumberOf, journal_start, journal_room}
use Rattle.journal_store.specs.Images.{IsReadAs}
use Rattle.journal_store.specs.Stores.{device_under, root_number, HoldsRecords, IsSoundJournal, journal_state}
use Rattle.journal_store.specs.Reads.{KeepsJournal, IsStill, keeps_same, present_in}

-- a device whose content stays, of which a stop leaves no more, holds the journal still
journal_stays : (root top : ℕ) (es : List Entry) (d e : DeviceState) → e.sectors ≡ d.sectors → KeepsContent d e → HoldsJournal journal_start journal_room root top es d → HoldsJournal journal_start journal_room root top es e
journal_stays root top es d e sectors keeps holds =
    let same : d.content ≡ e.content = fun_ext (λ q. sym (keeps.content q)) in
    record {
      inside = omega (arith, holds.inside, sectors);
      fixed = λ q lt c left. holds.fixed q lt c (keeps.left (journal_start + q) c left) ∙ sym (keeps.content (journal_start + q));
      journal = subst (λ (image : Image). IsJournal (region_in journal_start journal_room image) root journal_room es) same holds.journal;
      few = subst (λ (image : Image). NumbersUpTo top (region_in journal_start journal_room image)) same holds.few;
    }

-- a store that was not read
pub nothing_read : {D : Type 0} {g : Ghosts D} (present : (device : D) → (g.state device).faithful → IsPresent (timeline (g.state device))) (s : JournalStore D g) → OnlyReads (journal_state s) (journal_state s)
nothing_read present s = none_read (journal_state s) (λ sound. present_in s (present (pages_of s.store).device sound.pages.faithful))

module _ {D : Type 0} {g : Ghosts D} (present : (device : D) → (g.state device).faithful → IsPresent (timeline (g.state device)))
    (s t : JournalStore D g) (works : s.store.has_failed ≡ false) (keeps : KeepsJournal s t) where
  abbrev same_root : (root_of (pages_of t.store)) ≡ (root_of (pages_of s.store))
  same_root = keeps.nothing.preserved.preserved.root

  module _ (reads : OnlyReads (store_state s.store) (store_state t.store)) where
    module _ (sound : IsSoundJournal s) where
      content : KeepsContent (device_under s) (device_under t)
      content = keeps.nothing.content (record { faithful = sound.pages.faithful; present = present (pages_of s.store).device sound.pages.faithful })

      still_holds : HoldsRecords t
      still_holds =
          let r = sound.works works in
          record {
            second = (reads.unchanged sound.pages).record_format ∙ r.second;
            es = r.es;
            holds = subst (λ (f : RootFields). HoldsJournal journal_start journal_room f.number t.top r.es (device_under t)) (sym same_root)
                (subst (λ (n : ℕ). HoldsJournal journal_start journal_room (root_number s) n r.es (device_under t)) (sym keeps.top)
                (journal_stays (root_number s) s.top r.es (device_under s) (device_under t) keeps.nothing.preserved.preserved.history.sectors content r.holds));
            batches = r.batches;
            spelled = r.spelled;
            waits = λ es in_order. ap (λ (w : List Changes). applied_all w es) keeps.waiting ∙ r.waits es in_order;
            end_is = r.end_is ∙ sym keeps.ends;
            number_is = subst (λ (f : RootFields). IsNumberOf (max f.number t.top) f.number (region_in journal_start journal_room (device_under t).content)) (sym same_root)
                (subst (λ (n : ℕ). IsNumberOf (max (root_number s) n) (root_number s) (region_in journal_start journal_room (device_under t).content)) (sym keeps.top)
                (subst (λ (image : Image). IsNumberOf (max (root_number s) s.top) (root_number s) (region_in journal_start journal_room image)) (fun_ext (λ q. sym (content.content q))) r.number_is));
          }

      still_sound : IsSoundJournal t
      still_sound = record { pages = reads.history.sound sound.pages; works = λ is. still_holds }

      leaves_read : LeavesOnly (journal_state s).time.left (journal_state s).time (journal_state t).time
      leaves_read =
          subst (λ (f : RootFields). LeavesOnly (journal_state s).time.left (journal_state s).time (read_by (IsReadAs f.pages) (timeline (device_under t)))) (sym same_root)
          (lifted (IsReadAs (root_of (pages_of s.store)).pages) (IsLeft (device_under s)) (journal_state s).time.left (timeline (device_under s)) (timeline (device_under t))
          (λ image x left read. (image, left, read)) content.leaves)

      map_is : (journal_state t).map ≡ (journal_state s).map
      map_is = ap (λ (w : List Changes). applied_all w (store_state t.store).map) keeps.waiting ∙ ap (λ (es : Records). applied_all s.waiting es) (reads.unchanged sound.pages).map

    journal_only_reads : OnlyReads (journal_state s) (journal_state t)
    journal_only_reads = record {
      history = record { sound = still_sound; fulls = reads.history.fulls; failures = reads.history.failures; faults = reads.history.faults };
      unchanged = λ sound. record {
        map = map_is sound;
        record_format = (reads.unchanged sound.pages).record_format;
        number = omega (arith, ap (λ (f : RootFields). f.number) same_root, keeps.top);
      };
      leaves = leaves_read;
    }

  -- the cause of a fault below
  cause_is : (fault : StoreFault) → HasReadCause fault (view_state s.waiting (store_state s.store)) (view_state s.waiting (store_state t.store)) → HasReadCause fault (journal_state s) (journal_state t)
  cause_is Full cause = cause
  cause_is Memory cause = tt
  cause_is Device cause = record { counted = cause.counted; fault = λ sound. cause.fault sound.pages }
  cause_is Number cause = cause

  -- a read of the view is one of the store
  journal_goes : {T : Type 0} {answers : T → Type 0} {result : Result T StoreFault} → Goes answers result (view_state s.waiting (store_state s.store)) (view_state s.waiting (store_state t.store))
      → Goes answers result (journal_state s) (journal_state t)
  journal_goes {T} {answers} {result} goes = record {
    only_reads = journal_only_reads (map_only_reads s.waiting s.waiting (store_state s.store) (store_state t.store) keeps.records goes.only_reads);
    answer = λ sound. goes.answer sound.pages;
    cause = IfErr-weaker result _ _ cause_is goes.cause;
    failed = goes.failed;
    closed = λ closes had. absurd (false≢true (sym works ∙ had));
  }

-- ---- what a read of the store does

pub record IsRead {D : Type 0} {g : Ghosts D} {T : Type 0} (answers : T → Type 0) (result : Result T StoreFault) (s t : JournalStore D g) : Type 0 where
  pub preserved : KeepsJournal s t
  pub goes : Goes answers result (journal_state s) (journal_state t)
  pub still : IsStill result s t

-- a store that has answered Device is not read
pub not_read : {D : Type 0} {g : Ghosts D} {T : Type 0} {answers : T → Type 0} (present : (device : D) → (g.state device).faithful → IsPresent (timeline (g.state device)))
    (s : JournalStore D g) → s.store.has_failed ≡ true → IsRead answers (Err Device) s s
not_read present s failed = record {
  preserved = keeps_same s;
  goes = record {
    only_reads = nothing_read present s;
    answer = λ sound. tt;
    cause = record { counted = inl failed; fault = λ sound. inl failed };
    failed = failed;
    closed = λ closes had. refl;
  };
  still = λ had. (refl, refl);
}

-- a read of the pages under what waits writes nothing, and does not touch what waits
pub read_under : {D : Type 0} {g : Ghosts D} {T : Type 0} {answers : T → Type 0} {result : Result T StoreFault} (present : (device : D) → (g.state device).faithful → IsPresent (timeline (g.state device)))
    (s t : JournalStore D g) → s.store.has_failed ≡ false → t.waiting ≡ s.waiting → t.top ≡ s.top → t.end ≡ s.end → WritesNothing (pages_of s.store) (pages_of t.store)
    → KeepsRecords (store_state s.store) (store_state t.store) → Goes answers result (view_state s.waiting (store_state s.store)) (view_state s.waiting (store_state t.store)) → IsRead answers result s t
read_under present s t works waiting top ends nothing records goes =
    let keeps : KeepsJournal s t = record { waiting = waiting; top = top; ends = ends; nothing = nothing; records = records } in
    record { preserved = keeps; goes = journal_goes present s t works keeps goes; still = λ had. absurd (false≢true (sym works ∙ had)) }

-- ---- a read of an entry

module _ {entry : Option Record} {result : Result Bool StoreFault} {out : Record} {old new : StoreState} where
  pub as_goes : Reads entry result out old new → Goes (λ (found : Bool). IsFound found out entry) result old new
  as_goes is = record { only_reads = is.only_reads; answer = is.found; cause = is.cause; failed = is.failed; closed = is.closed }

  pub as_reads : Goes (λ (found : Bool). IsFound found out entry) result old new → Reads entry result out old new
  as_reads is = record { only_reads = is.only_reads; found = is.answer; cause = is.cause; failed = is.failed; closed = is.closed }
