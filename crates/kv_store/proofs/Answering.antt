-- What a store answers to a read of its tree.
use Rattle.std.proofs.Common.{◌≡◌, ◌≢◌, ◌≤◌, ◌<◌, ◌⊎◌, ℕ, Bool, [], Option, None, Result, Ok, Err, true, false, sym, ap, ◌∙◌, subst, arith}
use Rattle.std.proofs.lemmas.Bool.{false≢true}
use Rattle.std.specs.Prelude.{IfOk, OnErr}
use Rattle.sector_device.specs.Timeline.{IsPresent}
use Rattle.sector_device.specs.Device.{timeline}
use Rattle.sector_device.specs.declared.device.Device.{Ghosts}
use Rattle.pages.specs.declared.array.PageFault.{PageFault}
use Rattle.pages.specs.declared.array.PageFault.TheVariants as page
use Rattle.cow_pages.specs.Cow.{device_below, has_failed, working_array}
use Rattle.cow_pages.specs.Preserved.{FailedWith}
use Rattle.page_tree.specs.Calls.{IsCaused}
use Rattle.page_tree.specs.Forest.{Represents}
use Rattle.page_tree.specs.Kept.{KeepsPlace}
use Rattle.page_tree.specs.declared.cursor.TreeCursor.{TreeCursor}
use Rattle.store.specs.Records.{Record, IsFound}
use Rattle.store.specs.Steps.{Goes}
use Rattle.store.specs.Store.{OnlyReads, Reads}
use Rattle.store.specs.declared.fault.StoreFault.{StoreFault}
use Rattle.store.specs.declared.fault.StoreFault.TheVariants.{Memory}
use Rattle.kv_store.specs.declared.read_only.ReadOnlyPages.{ReadOnlyPages}
use Rattle.kv_store.specs.declared.tree_store.TreeStore.{TreeStore}
use Rattle.kv_store.specs.Contents.{contents_of}
use Rattle.kv_store.specs.TreeStore.{IsSoundStore, RefusesRead, CountsNothing, CountsRefusal, CountsRead, IsStill, pages_of, store_state}
use Rattle.kv_store.specs.Unwritten.{WritesNothing}
use Rattle.kv_store.proofs.Batches.{working_holds}
use Rattle.kv_store.proofs.Counting.{copy_counts, fault_counts}
use Rattle.kv_store.proofs.Reading.{only_reads, reads_found, reads_copied, read_refused, cause_of_read}
use Rattle.kv_store.proofs.Walking.{goes_on, goes_to_fault}

-- a store that works need not say what one does that has answered Device
pub works_still : {D : Type 0} {g : Ghosts D} {T : Type 0} (result : Result T StoreFault) (old new : TreeStore D g) → old.has_failed ≡ false → IsStill result old new
works_still result old new works had = absurd (false≢true (sym works ∙ had))

-- a read wrote nothing to the pages, and what it keeps of the tree is what the tree has
pub record HasRead {D : Type 0} {g : Ghosts D} (old new : TreeStore D g) : Type 0 where
  pub preserved : WritesNothing (pages_of old) (pages_of new)
  pub working : (device_below (pages_of old)).faithful → (l : ℕ) → working_array (pages_of new) l ≡ working_array (pages_of old) l
  pub place : IsSoundStore old → KeepsPlace (contents_of (pages_of old)).records new.cursor
  pub has_failed : new.has_failed ≡ old.has_failed
  pub counts : CountsNothing old new

-- of a read that leaves the cursor alone
pub has_read : {D : Type 0} {g : Ghosts D} (old new : TreeStore D g) → WritesNothing (pages_of old) (pages_of new) → ((device_below (pages_of old)).faithful → (l : ℕ) → working_array (pages_of new) l ≡ working_array (pages_of old) l)
    → new.cursor ≡ old.cursor → new.has_failed ≡ old.has_failed → CountsNothing old new → HasRead old new
has_read old new nothing working cursor failed counts = record {
  preserved = nothing;
  working = working;
  place = λ sound. subst (λ (k : TreeCursor). KeepsPlace (contents_of (pages_of old)).records k) (sym cursor) sound.place;
  has_failed = failed;
  counts = counts;
}

-- a fault of a read was answered
abbrev pub HasRefused : {D : Type 0} {g : Ghosts D} → PageFault → StoreFault → TreeStore D g → TreeStore D g → Type 0
HasRefused fault answer old new = record {
  pages : new.pages ≡ old.pages;
  cursor : new.cursor ≡ old.cursor;
  fulls : new.fulls ≡ old.fulls;
  failures : old.failures ≤ new.failures;
  refused : RefusesRead fault answer old new;
  counts : CountsRefusal fault answer old new;
}

-- the tree has the records of the store
abbrev pub HasTree : {D : Type 0} {g : Ghosts D} → TreeStore D g → Type 0
HasTree s = Represents (contents_of (pages_of s)).records (working_array (pages_of s))

has_tree : {D : Type 0} {g : Ghosts D} (s : TreeStore D g) → s.has_failed ≡ false → IsSoundStore s → HasTree s
has_tree s works sound = working_holds (contents_of (pages_of s)) (pages_of s) (sound.works works)

-- why a read of a sound store failed
abbrev pub IsCausedBy : {D : Type 0} {g : Ghosts D} → TreeStore D g → TreeStore D g → PageFault → Type 0
IsCausedBy old new fault = IsSoundStore old → HasTree old → IsCaused (λ f. f ≢ page.Full → FailedWith (pages_of old) (pages_of new) f) fault

module _ {D : Type 0} {g : Ghosts D} (present : (device : D) → (g.state device).faithful → IsPresent (timeline (g.state device)))
    (content_left : (device : D) (s : ℕ) → (g.state device).faithful → s < (g.state device).sectors → (g.state device).left s ((g.state device).content s)) where
  -- it went on
  module _ (old new : TreeStore D g) (worked : old.has_failed ≡ false) (read : HasRead old new) (works : IsSoundStore old → has_failed (pages_of new) ≡ false) where
    only_read : OnlyReads (store_state old) (store_state new)
    only_read = only_reads present content_left old new worked read.preserved.preserved (λ sound now. works sound) read.working read.place read.counts.fulls (omega (arith, read.counts.failures))

    pub goes : {T : Type 0} (does : T → Type 0) (x : T) → (IsSoundStore old → HasTree old → does x) → record {
      preserved : WritesNothing (pages_of old) (pages_of new);
      goes : Goes does (Ok x) (store_state old) (store_state new);
      still : IsStill {T = T} (Ok x) old new;
      counts : CountsRead {T = T} (Ok x) old new;
    }
    goes does x is = record {
      preserved = read.preserved;
      goes = goes_on does x (store_state old) (store_state new) only_read worked (read.has_failed ∙ worked) (λ sound. is sound (has_tree old worked sound));
      still = works_still _ old new worked;
      counts = read.counts;
    }

    pub finds_none : (entry : Option Record) (out : Record) → (IsSoundStore old → HasTree old → IsFound false out entry) → record {
      preserved : WritesNothing (pages_of old) (pages_of new);
      reads : Reads entry (Ok false) out (store_state old) (store_state new);
      still : IsStill {T = Bool} (Ok false) old new;
      counts : CountsRead {T = Bool} (Ok false) old new;
    }
    finds_none entry out is = record {
      preserved = read.preserved;
      reads = reads_found entry false out (store_state old) (store_state new) only_read worked (read.has_failed ∙ worked) (λ sound. is sound (has_tree old worked sound));
      still = works_still _ old new worked;
      counts = read.counts;
    }

    pub copies : (entry : Option Record) (result : Result Bool StoreFault) (out given : Record) → IfOk result (λ found. (found ≡ true) × (out ≡ given)) → OnErr result (result ≡ Err Memory) → (IsSoundStore old → HasTree old → IsFound true given entry) → record {
      preserved : WritesNothing (pages_of old) (pages_of new);
      reads : Reads entry result out (store_state old) (store_state new);
      still : IsStill result old new;
      counts : CountsRead result old new;
    }
    copies entry result out given copied refused is = record {
      preserved = read.preserved;
      reads = reads_copied entry result out given (store_state old) (store_state new) only_read worked (read.has_failed ∙ worked) copied refused (λ sound. is sound (has_tree old worked sound));
      still = works_still _ old new worked;
      counts = copy_counts result old new refused read.counts;
    }

  -- it failed
  module _ (old mid new : TreeStore D g) (worked : old.has_failed ≡ false) (read : HasRead old mid) (fault : PageFault) (answer : StoreFault) (is : HasRefused fault answer mid new) (not_full : fault ≢ page.Full) (caused : IsCausedBy old mid fault) where
    nothing : WritesNothing (pages_of old) (pages_of new)
    nothing = subst (λ (p : ReadOnlyPages D g). WritesNothing (pages_of old) p.below) (sym is.pages) read.preserved

    reads : (entry : Option Record) (out : Record) → Reads entry (Err answer) out (store_state old) (store_state new)
    reads entry out =
        read_refused present content_left old mid new worked nothing.preserved
        (λ faithful l. ap (λ (p : ReadOnlyPages D g). working_array p.below l) is.pages ∙ read.working faithful l)
        (λ sound. subst (λ (k : TreeCursor). KeepsPlace (contents_of (pages_of old)).records k) (sym is.cursor) (read.place sound))
        read.has_failed read.counts.failures (is.fulls ∙ read.counts.fulls) (omega (arith, is.failures, read.counts.failures)) entry out fault not_full
        (λ sound.
        let why = caused sound (has_tree old worked sound) in
        (why.well_formed, subst (λ (p : ReadOnlyPages D g). (fault ≡ page.Memory) ⊎ FailedWith (pages_of old) p.below fault) (sym is.pages) (cause_of_read not_full why.cause)))
        answer is.refused

    counts : (T : Type 0) → CountsRead {T = T} (Err answer) old new
    counts T = fault_counts T fault answer mid old new read.counts.fulls read.counts.failures is.fulls is.counts

    pub reads_fault : (entry : Option Record) (out : Record) → record {
      preserved : WritesNothing (pages_of old) (pages_of new);
      reads : Reads entry (Err answer) out (store_state old) (store_state new);
      still : IsStill {T = Bool} (Err answer) old new;
      counts : CountsRead {T = Bool} (Err answer) old new;
    }
    reads_fault entry out = record { preserved = nothing; reads = reads entry out; still = works_still _ old new worked; counts = counts Bool }

    pub goes_fault : {T : Type 0} (does : T → Type 0) → record {
      preserved : WritesNothing (pages_of old) (pages_of new);
      goes : Goes does (Err answer) (store_state old) (store_state new);
      still : IsStill {T = T} (Err answer) old new;
      counts : CountsRead {T = T} (Err answer) old new;
    }
    goes_fault {T} does = record {
      preserved = nothing;
      goes = goes_to_fault does answer ([], []) (store_state old) (store_state new) (reads None ([], []));
      still = works_still _ old new worked;
      counts = counts T;
    }
