-- Commits of a store on a device to pages without a journal.
use Rattle.std.proofs.Common.{◌≡◌, ◌≢◌, ◌/◌, ◌⊎◌, ◌+◌, inl, inr, ℕ, false, Option, Some, Result, Ok, Err, refl, sym, ap, subst, ◌∙◌, arith}
use Rattle.std.proofs.lemmas.Bool.{cases_Bool}
use Rattle.std.specs.Prelude.{IfErr, OnOk}
use Rattle.sector_device.specs.Timeline.{LeavesOnly, IsPresent, read_by, weakened}
use Rattle.sector_device.proofs.Runs.{lifted}
use Rattle.sector_device.specs.Device.{DeviceState, Image, timeline}
use Rattle.sector_device.specs.declared.device.Device.{Ghosts}
use Rattle.page_roots.specs.Root.{RootFields}
use Rattle.cow_pages.specs.Cow.{device_of as device_of_pages, device_below, root_of}
use Rattle.cow_pages.specs.ReadingLaws.{reads_none}
use Rattle.store.specs.Records.{Changes}
use Rattle.store.specs.Store.{Contents, OnlyReads, IsUnchanged, HasCause, CommitsAtOnce, Commits, stored}
use Rattle.store.specs.declared.fault.StoreFault.{StoreFault}
use Rattle.store.specs.declared.fault.StoreFault.TheVariants.{Full, Memory, Device, Number}
use Rattle.kv_store.specs.declared.page_store.PageStore.{PageStore}
use Rattle.kv_store.specs.declared.tree_store.TreeStore.{TreeStore}
use Rattle.kv_store.specs.declared.reserve.Reserve.{Reserve}
use Rattle.kv_store.specs.Batches.{CommitsBatch, IsTakenBack}
use Rattle.kv_store.specs.Contents.{HasContentsWith, LeavesContents, is_journaled}
use Rattle.kv_store.specs.ContentLaws.{same_parts}
use Rattle.kv_store.specs.PageStore.{pages_of, store_state as pages_state}
use Rattle.kv_store.specs.TreeStore.{CommitsWhole, CountsCommit, IsStill, pages_of as tree_pages}
use Rattle.journal_store.specs.ImageLaws.{has_plain, read_has}
use Rattle.journal_store.specs.declared.device_stores.DeviceStore.{DeviceStore}
use Rattle.journal_store.specs.declared.device_stores.DeviceStore.TheVariants.{Pages}
use Rattle.journal_store.specs.DeviceCommits.{CommitsOn}
use Rattle.journal_store.specs.DeviceImages.{HasContents, IsReadAs, records_on}
use Rattle.journal_store.specs.DeviceStores.{store_state}
use Rattle.journal_store.specs.DeviceStoreLaws.{sectors_are, settled_on}
use Rattle.journal_store.proofs.DeviceReading.{content_leaves}

one_of : (x : Option Contents) (contents : Contents) → (x ≡ Some contents) ⊎ (x ≡ Some contents) → x ≡ Some contents
one_of x contents (inl is) = is
one_of x contents (inr is) = is

module _ {D : Type 0} {g : Ghosts D} (present : (device : D) → (g.state device).faithful → IsPresent (timeline (g.state device))) (s t : PageStore D g) where
  abbrev before : Contents
  before = stored (pages_state s)

  abbrev d : DeviceState
  d = device_below (pages_of s)

  abbrev e : DeviceState
  e = device_below (pages_of t)

  -- what is read of an image whose pages have these contents
  pages_read : (contents : Contents) (image : Image) (x : Option Contents) → HasContentsWith (is_journaled (pages_of s)) (root_of (pages_of s)).pages contents image → IsReadAs (d.sectors / 8) image x → x ≡ Some contents
  pages_read contents image x is read =
      read_has image (d.sectors / 8) contents x
      (subst (λ (m : ℕ). HasContents m contents image) (sectors_are (pages_of s)) (has_plain (is_journaled (pages_of s)) (root_of (pages_of s)).pages contents image s.plain is)) read

  either_read : (contents other : Contents) (image : Image) (x : Option Contents)
      → HasContentsWith (is_journaled (pages_of s)) (root_of (pages_of s)).pages contents image ⊎ HasContentsWith (is_journaled (pages_of s)) (root_of (pages_of s)).pages other image
      → IsReadAs (d.sectors / 8) image x → (x ≡ Some contents) ⊎ (x ≡ Some other)
  either_read contents other image x (inl is) read = inl (pages_read contents image x is read)
  either_read contents other image x (inr is) read = inr (pages_read other image x is read)

  -- what a stop leaves of pages, read as contents
  leaves_either : (contents other : Contents) → LeavesContents contents other (pages_of s) (pages_of t) → e.sectors ≡ d.sectors
      → LeavesOnly (λ x. (x ≡ Some contents) ⊎ (x ≡ Some other)) (records_on d) (records_on e)
  leaves_either contents other leaves same =
      let Q : Option Contents → Type 0 = λ x. (x ≡ Some contents) ⊎ (x ≡ Some other) in
      subst (λ (m : ℕ). LeavesOnly Q (records_on d) (read_by (IsReadAs (m / 8)) (timeline e))) (sym same)
      (lifted (IsReadAs (d.sectors / 8)) _ Q (timeline d) (timeline e)
      (λ image x is read. either_read contents other image x is read) leaves)

  leaves_before : IsTakenBack before (pages_of s) (pages_of t) → e.sectors ≡ d.sectors → LeavesOnly (λ x. x ≡ Some before) (records_on d) (records_on e)
  leaves_before back same =
      weakened (λ x. (x ≡ Some before) ⊎ (x ≡ Some before)) (λ x. x ≡ Some before) (records_on d) (records_on e) (λ x is. one_of x before is) (leaves_either before before back.leaves same)

  sectors_same : (root_of (pages_of t)).pages ≡ (root_of (pages_of s)).pages → e.sectors ≡ d.sectors
  sectors_same same = omega (arith, (pages_of s).sized, (pages_of t).sized, same)

  unchanged_on : IsUnchanged (pages_state s) (pages_state t) → IsUnchanged (store_state (Pages s)) (store_state (Pages t))
  unchanged_on same = record { map = same.map; record_format = same.record_format; number = same.number }

  -- a store that works leaves its contents alone
  left_now : (contents : Contents) → (pages_state t).sound → (pages_state t).has_failed ≡ false → (pages_state t).record_format ≡ contents.record_format → (pages_state t).map ≡ contents.records
      → (x : Option Contents) → (records_on e).left x → x ≡ Some contents
  left_now contents sound works record_format map x left =
      settled_on (Pages t) x sound works left ∙ ap (λ (c : Contents). Some c) (same_parts (stored (pages_state t)) contents record_format map)

  module _ (reserve : Reserve) (changes : Changes) (after : Contents) (sound : (pages_state s).sound) (works : (pages_state s).has_failed ≡ false) where
    pub at_once_on : (result : Result (Unit {0}) StoreFault) → Commits result after (pages_state s) (pages_state t) → CommitsBatch reserve changes result before after (pages_of s) (pages_of t)
        → CommitsAtOnce result after (store_state (Pages s)) (store_state (Pages t))
    at_once_on (Ok x) commits batch =
        let done = (commits.at_once sound works).committed in
        record {
          committed = record { map = done.map; record_format = done.record_format; not_back = done.not_back; by_one = done.by_one };
          leaves = leaves_either before after batch.leaves (sectors_same batch.outcome.pages);
          left = left_now after (commits.history.sound sound) (commits.failed ∙ works) done.record_format done.map;
        }
    at_once_on (Err Full) commits batch =
        let same = (commits.at_once sound works).committed in
        let back = batch.outcome.1 in
        record {
          committed = unchanged_on same;
          leaves = leaves_before back (sectors_same (ap (λ (r : RootFields). r.pages) back.root));
          left = left_now before (commits.history.sound sound) (commits.failed ∙ works) same.record_format same.map;
        }
    at_once_on (Err Memory) commits batch =
        let same = (commits.at_once sound works).committed in
        let back = batch.outcome in
        record {
          committed = unchanged_on same;
          leaves = leaves_before back (sectors_same (ap (λ (r : RootFields). r.pages) back.root));
          left = left_now before (commits.history.sound sound) (commits.failed ∙ works) same.record_format same.map;
        }
    at_once_on (Err Device) commits batch =
        let leaves = leaves_either before after batch.leaves (sectors_same (ap (λ (r : RootFields). r.pages) batch.outcome.keeps.root)) in
        record { committed = tt; leaves = leaves; left = λ x left. leaves.now x left }
    at_once_on (Err Number) commits batch =
        let same = (commits.at_once sound works).committed in
        let back = batch.outcome.1 in
        record {
          committed = unchanged_on same;
          leaves = leaves_before back (sectors_same (ap (λ (r : RootFields). r.pages) back.root));
          left = left_now before (commits.history.sound sound) (commits.failed ∙ works) same.record_format same.map;
        }

  -- a store that has failed is as it was
  still_on : (t.tree ≡ s.tree) → OnlyReads (pages_state s) (pages_state t) → OnlyReads (store_state (Pages s)) (store_state (Pages t))
  still_on same reads = record {
    history = record { sound = reads.history.sound; fulls = reads.history.fulls; failures = reads.history.failures; faults = reads.history.faults };
    unchanged = λ sound. unchanged_on (reads.unchanged sound);
    leaves = λ sound. subst (λ (x : TreeStore D g). LeavesOnly (records_on d).left (records_on d) (records_on (device_below (tree_pages x)))) (sym same)
        (content_leaves d d (reads_none d (present (device_of_pages (pages_of s)) sound.faithful)) refl);
  }

  cause_on : (result : Result (Unit {0}) StoreFault) → IfErr result (λ fault. HasCause fault (pages_state s) (pages_state t)) → IfErr result (λ fault. HasCause fault (store_state (Pages s)) (store_state (Pages t)))
  cause_on (Ok x) cause = tt
  cause_on (Err Full) cause = cause
  cause_on (Err Memory) cause = tt
  cause_on (Err Device) cause = record { counted = cause.counted; fault = λ sound. cause.fault sound }
  cause_on (Err Number) cause = cause

  -- the commit of a batch
  pub pages_commits : (reserve : Reserve) (changes : Changes) (changed : Contents → Contents) (result : Result (Unit {0}) StoreFault) → Commits result (changed before) (pages_state s) (pages_state t)
      → CommitsWhole reserve changes changed result s.tree t.tree → IsStill result s.tree t.tree → Commits result (changed before) (store_state (Pages s)) (store_state (Pages t))
  pages_commits reserve changes changed result commits whole still = record {
    history = record { sound = commits.history.sound; fulls = commits.history.fulls; failures = commits.history.failures; faults = commits.history.faults };
    at_once = λ sound works. at_once_on reserve changes (changed before) sound works result commits (whole works before (sound.works works));
    cause = cause_on result commits.cause;
    failed = commits.failed;
    closed = commits.closed;
    still = λ sound had. still_on (still had).1 (commits.still sound had);
  }

  -- where the contents change, the number rises
  pub pages_rise : (reserve : Reserve) (changes : Changes) (changed : Contents → Contents) (result : Result (Unit {0}) StoreFault) → CommitsWhole reserve changes changed result s.tree t.tree → IsStill result s.tree t.tree
      → (pages_state s).sound → before ≢ changed before → OnOk result ((pages_state t).number ≡ (pages_state s).number + 1)
  pages_rise reserve changes changed (Ok x) whole still sound differ = elim (cases_Bool s.tree.has_failed) [
    | inl had ↦ absurd (let bad : Ok tt ≡ Err Device = (still had).0 in cc)
    | inr works ↦ (whole works before (sound.works works)).outcome.rises differ
  ]
  pages_rise reserve changes changed (Err fault) whole still sound differ = tt

  -- what the commit does of this kind
  pub kind_in_pages : (x : DeviceStore D g) → x ≡ Pages s → (reserve : Reserve) (changes : Changes) (changed : Contents → Contents) (result : Result (Unit {0}) StoreFault)
      → CommitsWhole reserve changes changed result s.tree t.tree → CountsCommit result s.tree t.tree → IsStill result s.tree t.tree → CommitsOn reserve changes changed result x (Pages t)
  kind_in_pages x is reserve changes changed result whole counts still =
      subst (λ (y : DeviceStore D g). CommitsOn reserve changes changed result y (Pages t)) (sym is)
      (record { whole = whole; rises = λ sound differ. pages_rise reserve changes changed result whole still sound differ; counts = counts; still = still })

  -- of the store on a device, where it is this one
  pub commits_in_pages : (x : DeviceStore D g) → x ≡ Pages s → (reserve : Reserve) (changes : Changes) (changed : Contents → Contents) (result : Result (Unit {0}) StoreFault) → Commits result (changed before) (pages_state s) (pages_state t)
      → CommitsWhole reserve changes changed result s.tree t.tree → IsStill result s.tree t.tree → Commits result (changed (stored (store_state x))) (store_state x) (store_state (Pages t))
  commits_in_pages x is reserve changes changed result commits whole still =
      subst (λ (y : DeviceStore D g). Commits result (changed (stored (store_state y))) (store_state y) (store_state (Pages t))) (sym is) (pages_commits reserve changes changed result commits whole still)
