-- Reads of a store on a device, which are those of its kind.
use Rattle.std.proofs.Common.{◌≡◌, ◌/◌, ℕ, Bool, Option, Result, Ok, Err, sym, subst}
use Rattle.std.specs.Prelude.{IfErr}
use Rattle.sector_device.specs.Timeline.{LeavesOnly, IsPresent, read_by}
use Rattle.sector_device.proofs.Runs.{lifted}
use Rattle.sector_device.specs.Device.{DeviceState, IsLeft, timeline}
use Rattle.sector_device.specs.declared.device.Device.{Ghosts}
use Rattle.cow_pages.specs.Cow.{device_of as device_of_pages, device_below}
use Rattle.cow_pages.specs.Held.{KeepsContent}
use Rattle.store.specs.Records.{Record, Records}
use Rattle.store.specs.Steps.{Goes}
use Rattle.store.specs.Store.{OnlyReads, Reads, HasReadCause}
use Rattle.store.specs.declared.fault.StoreFault.{StoreFault}
use Rattle.store.specs.declared.fault.StoreFault.TheVariants.{Full, Memory, Device, Number}
use Rattle.kv_store.specs.declared.page_store.PageStore.{PageStore}
use Rattle.kv_store.specs.PageStore.{pages_of, store_state as pages_state}
use Rattle.kv_store.specs.Unwritten.{WritesNothing}
use Rattle.journal_store.specs.declared.device_stores.DeviceStore.{DeviceStore}
use Rattle.journal_store.specs.declared.device_stores.DeviceStore.TheVariants.{Pages}
use Rattle.journal_store.specs.DeviceImages.{IsReadAs, records_on}
use Rattle.journal_store.specs.DeviceReads.{OnlyLooksInto}
use Rattle.journal_store.specs.DeviceStores.{store_state}

-- where nothing was written a stop leaves what it might have left before
pub content_leaves : (d e : DeviceState) → KeepsContent d e → e.sectors ≡ d.sectors → LeavesOnly (records_on d).left (records_on d) (records_on e)
content_leaves d e keeps same =
    subst (λ (n : ℕ). LeavesOnly (records_on d).left (records_on d) (read_by (IsReadAs (n / 8)) (timeline e))) (sym same)
    (lifted (IsReadAs (d.sectors / 8)) (IsLeft d) (records_on d).left (timeline d) (timeline e) (λ image x left reads. (image, left, reads)) keeps.leaves)

-- ---- in pages without a journal

module _ {D : Type 0} {g : Ghosts D} (present : (device : D) → (g.state device).faithful → IsPresent (timeline (g.state device))) (s t : PageStore D g) (nothing : WritesNothing (pages_of s) (pages_of t)) where
  pages_only_reads : OnlyReads (pages_state s) (pages_state t) → OnlyReads (store_state (Pages s)) (store_state (Pages t))
  pages_only_reads reads = record {
    history = record { sound = reads.history.sound; fulls = reads.history.fulls; failures = reads.history.failures; faults = reads.history.faults };
    unchanged = λ sound. let same = reads.unchanged sound in record { map = same.map; record_format = same.record_format; number = same.number };
    leaves = λ sound. content_leaves (device_below (pages_of s)) (device_below (pages_of t))
        (nothing.content (record { faithful = sound.faithful; present = present (device_of_pages (pages_of s)) sound.faithful })) nothing.preserved.preserved.history.sectors;
  }

  pages_cause : {T : Type 0} (result : Result T StoreFault) → IfErr result (λ fault. HasReadCause fault (pages_state s) (pages_state t)) → IfErr result (λ fault. HasReadCause fault (store_state (Pages s)) (store_state (Pages t)))
  pages_cause (Ok x) cause = tt
  pages_cause (Err Full) cause = cause
  pages_cause (Err Memory) cause = tt
  pages_cause (Err Device) cause = record { counted = cause.counted; fault = λ sound. cause.fault sound }
  pages_cause (Err Number) cause = cause

  pub pages_reads : (entry : Option Record) (result : Result Bool StoreFault) (out : Record) → Reads entry result out (pages_state s) (pages_state t) → Reads entry result out (store_state (Pages s)) (store_state (Pages t))
  pages_reads entry result out reads = record {
    only_reads = pages_only_reads reads.only_reads;
    found = λ sound. reads.found sound;
    cause = pages_cause result reads.cause;
    failed = reads.failed;
    closed = λ closes had. reads.closed tt had;
  }

  pub pages_goes : {T : Type 0} (answers : T → Type 0) (result : Result T StoreFault) → Goes answers result (pages_state s) (pages_state t) → Goes answers result (store_state (Pages s)) (store_state (Pages t))
  pages_goes answers result goes = record {
    only_reads = pages_only_reads goes.only_reads;
    answer = λ sound. goes.answer sound;
    cause = pages_cause result goes.cause;
    failed = goes.failed;
    closed = λ closes had. goes.closed tt had;
  }

  -- of the store on a device, where it is this one
  module _ (x : DeviceStore D g) (is : x ≡ Pages s) where
    pub looks_in_pages : OnlyLooksInto x (Pages t)
    looks_in_pages = subst (λ (y : DeviceStore D g). OnlyLooksInto y (Pages t)) (sym is) nothing

    pub reads_in_pages : (entry : Records → Option Record) (result : Result Bool StoreFault) (out : Record) → Reads (entry (pages_state s).map) result out (pages_state s) (pages_state t)
        → Reads (entry (store_state x).map) result out (store_state x) (store_state (Pages t))
    reads_in_pages entry result out reads =
        subst (λ (y : DeviceStore D g). Reads (entry (store_state y).map) result out (store_state y) (store_state (Pages t))) (sym is) (pages_reads (entry (pages_state s).map) result out reads)

    pub goes_in_pages : {T : Type 0} (answers : DeviceStore D g → T → Type 0) (result : Result T StoreFault) → Goes (answers (Pages s)) result (pages_state s) (pages_state t)
        → Goes (answers x) result (store_state x) (store_state (Pages t))
    goes_in_pages answers result goes =
        subst (λ (y : DeviceStore D g). Goes (answers y) result (store_state y) (store_state (Pages t))) (sym is) (pages_goes (answers (Pages s)) result goes)
