-- Commits of a store in pages.
use Rattle.std.proofs.Common.{◌≡◌, ◌≤◌, ◌<◌, ◌-◌, ◌^◌, ◌⊎◌, inl, inr, ℕ, Bool, true, false, Option, Some, Ok, Err, refl, sym, ap, ◌∙◌, subst, arith}
use Rattle.std.proofs.lemmas.Bool.{false≢true}
use Rattle.sector_device.specs.Timeline.{LeavesOnly, IsPresent, read_by, weakened}
use Rattle.sector_device.proofs.Runs.{lifted}
use Rattle.sector_device.specs.Device.{KeepsHistory as DeviceKeepsHistory, timeline}
use Rattle.sector_device.specs.declared.device.Device.{Ghosts}
use Rattle.store.specs.Records.{Records, Changes}
use Rattle.page_roots.specs.Formats.{record_format_of, has_journal}
use Rattle.page_roots.specs.Root.{RootFields}
use Rattle.pages.specs.State.{Array}
use Rattle.cow_pages.specs.Cow.{device_below, root_of, durable_array}
use Rattle.page_tree.specs.Forest.{Represents}
use Rattle.page_tree.specs.Walk.{records_of}
use Rattle.page_tree.specs.Kept.{KeepsPlace}
use Rattle.std.proofs.Math.Path.{fun_ext}
use Rattle.store.specs.Store.{Contents, Rose, KeepsHistory, IsUnchanged, MayLeaveDuring, Commits}
use Rattle.store.specs.declared.fault.StoreFault.{StoreFault}
use Rattle.store.specs.declared.fault.StoreFault.TheVariants.{Full, Memory, Device, Number}
use Rattle.kv_store.specs.declared.tree_store.TreeStore.{TreeStore}
use Rattle.kv_store.specs.declared.reserve.Reserve.{Reserve}
use Rattle.kv_store.specs.Contents.{IsReadWith, HoldsContents, LeavesContents, contents_of, is_journaled}
use Rattle.kv_store.specs.ContentLaws.{read_with, read_either}
use Rattle.kv_store.specs.Batches.{IsLost, IsTakenBack, CommitsBatch}
use Rattle.kv_store.specs.TreeStore.{IsSoundStore, RefusesCommit, store_state}
use Rattle.kv_store.specs.TreeLaws.{settled_now}
use Rattle.kv_store.proofs.Reading.{contents_are, held_left, nothing_read}

-- what is counted, where another store had the same counts
pub counted_as : {D : Type 0} {g : Ghosts D} (fault : StoreFault) (mid old new : TreeStore D g) → mid.has_failed ≡ old.has_failed → mid.fulls ≡ old.fulls → mid.failures ≡ old.failures
    → RefusesCommit fault mid new → RefusesCommit fault old new
counted_as {D} {g} Full mid old new same fulls failures is = (is.0 ∙ same, subst (λ (n : ℕ). Rose n new.fulls) fulls is.1)
counted_as {D} {g} Memory mid old new same fulls failures is = is ∙ same
counted_as {D} {g} Device mid old new same fulls failures is = record { failed = is.failed; rose = subst (λ (n : ℕ). Rose n new.failures) failures is.rose }
counted_as {D} {g} Number mid old new same fulls failures is = is ∙ same

-- an array with the same pages has the same records
pub records_same : (a b : Array) → ((l : ℕ) → b l ≡ a l) → Represents (records_of a) a → Represents (records_of b) b
records_same a b same s = subst (λ (x : Array). Represents (records_of x) x) (sym (fun_ext same)) s

-- pages that hold contents hold those that a walk meets
holds_own : {D : Type 0} {g : Ghosts D} (contents : Contents) (s : TreeStore D g) → HoldsContents contents s.pages.below → HoldsContents (contents_of s.pages.below) s.pages.below
holds_own {D} {g} contents s holds = subst (λ (c : Contents). HoldsContents c s.pages.below) (sym (contents_are contents s.pages.below holds)) holds

-- a store whose pages hold contents is sound
pub holds_sound : {D : Type 0} {g : Ghosts D} (contents : Contents) (s : TreeStore D g) → HoldsContents contents s.pages.below → KeepsPlace (contents_of s.pages.below).records s.cursor → IsSoundStore s
holds_sound {D} {g} contents s holds place =
    let own = holds_own contents s holds in
    record { faithful = own.is_open.faithful; represents = own.durable; works = λ works. own; place = place }

one_of : (contents : Contents) (x : Option Contents) → (x ≡ Some contents) ⊎ (x ≡ Some contents) → x ≡ Some contents
one_of contents x is = elim is [
  | inl one ↦ one
  | inr other ↦ other
]

module _ {D : Type 0} {g : Ghosts D} (present : (device : D) → (g.state device).faithful → IsPresent (timeline (g.state device)))
    (content_left : (device : D) (s : ℕ) → (g.state device).faithful → s < (g.state device).sectors → (g.state device).left s ((g.state device).content s)) where
  -- what a stop leaves of pages, read as contents
  leaves_either : (before after : Contents) (old new : TreeStore D g) (Q : Option Contents → Type 0) → (root_of new.pages.below).pages ≡ (root_of old.pages.below).pages → is_journaled new.pages.below ≡ is_journaled old.pages.below
      → ((x : Option Contents) → (x ≡ Some before) ⊎ (x ≡ Some after) → Q x) → LeavesContents before after old.pages.below new.pages.below → LeavesOnly Q (store_state old).time (store_state new).time
  leaves_either before after old new Q same kind means leaves =
      let pages = (root_of old.pages.below).pages in
      let journal = is_journaled old.pages.below in
      subst (λ (j : Bool). LeavesOnly Q (store_state old).time (read_by (IsReadWith j (root_of new.pages.below).pages) (timeline (device_below new.pages.below)))) (sym kind)
      (subst (λ (n : ℕ). LeavesOnly Q (store_state old).time (read_by (IsReadWith journal n) (timeline (device_below new.pages.below)))) (sym same)
      (lifted (IsReadWith journal pages) _ Q (timeline (device_below old.pages.below)) (timeline (device_below new.pages.below))
      (λ image x has read. means x (read_either journal image pages before after x has read)) leaves))

  left_either : (before after : Contents) (old new : TreeStore D g) → (root_of new.pages.below).pages ≡ (root_of old.pages.below).pages → is_journaled new.pages.below ≡ is_journaled old.pages.below → LeavesContents before after old.pages.below new.pages.below
      → (x : Option Contents) → (store_state new).time.left x → (x ≡ Some before) ⊎ (x ≡ Some after)
  left_either before after old new same kind leaves x left =
      read_either (is_journaled old.pages.below) left.0 (root_of old.pages.below).pages before after x (leaves.now left.0 left.1)
      (subst (λ (j : Bool). IsReadWith j (root_of old.pages.below).pages left.0 x) kind (subst (λ (n : ℕ). IsReadWith (is_journaled new.pages.below) n left.0 x) same left.2))

  -- pages that hold contents leave them alone
  left_held : (contents : Contents) (new : TreeStore D g) → HoldsContents contents new.pages.below → (x : Option Contents) → (store_state new).time.left x → x ≡ Some contents
  left_held contents new holds x left =
      read_with (is_journaled new.pages.below) left.0 (root_of new.pages.below).pages contents x (held_left present content_left contents new.pages.below holds left.0 left.1) left.2

  module _ (old new : TreeStore D g) (after : Contents) (worked : old.has_failed ≡ false) (history : DeviceKeepsHistory (device_below old.pages.below) (device_below new.pages.below))
      (fulls : old.fulls ≤ new.fulls) (failures : old.failures ≤ new.failures) (forgot : (map : Records) → KeepsPlace map new.cursor) where
    abbrev pub before : Contents
    before = contents_of old.pages.below

    keeps : (IsSoundStore old → IsSoundStore new) → KeepsHistory (store_state old) (store_state new)
    keeps sound = record { sound = sound; fulls = fulls; failures = failures; faults = history.failures }

    -- all is committed
    pub all_committed : (reserve : Reserve) (changes : Changes) → new.has_failed ≡ false → (IsSoundStore old → CommitsBatch reserve changes (Ok tt) before after old.pages.below new.pages.below) → Commits (Ok tt) after (store_state old) (store_state new)
    all_committed reserve changes works batch = record {
      history = keeps (λ sound. holds_sound after new (batch sound).outcome.holds (forgot (contents_of new.pages.below).records));
      at_once = λ sound still.
          let done = batch sound in
          let is = done.outcome in
          record {
            committed = record { map = ap (λ (c : Contents). c.records) (contents_are after new.pages.below is.holds); record_format = ap (λ (c : Contents). c.record_format) (contents_are after new.pages.below is.holds); not_back = is.not_back; by_one = is.by_one };
            leaves = leaves_either before after old new (MayLeaveDuring (Ok tt) before after) is.pages is.kind (λ x either. either) done.leaves;
            left = left_held after new is.holds;
          };
      cause = tt;
      failed = works ∙ sym worked;
      closed = λ had. absurd (false≢true (sym worked ∙ had));
      still = λ sound had. absurd (false≢true (sym worked ∙ had));
    }

    -- nothing is, and a stop leaves the records as they were
    unchanged : IsTakenBack before old.pages.below new.pages.below → IsUnchanged (store_state old) (store_state new)
    unchanged back = record { map = ap (λ (c : Contents). c.records) (contents_are before new.pages.below back.holds); record_format = ap (λ (r : RootFields). record_format_of r.format) back.root; number = ap (λ (r : RootFields). r.number) back.root }

    leaves_before : (Q : Option Contents → Type 0) → ((x : Option Contents) → x ≡ Some before → Q x) → IsTakenBack before old.pages.below new.pages.below
        → LeavesOnly Q (store_state old).time (store_state new).time
    leaves_before Q means back =
        leaves_either before before old new Q (ap (λ (r : RootFields). r.pages) back.root) (ap (λ (r : RootFields). has_journal r.format) back.root) (λ x is. means x (one_of before x is)) back.leaves

    lost_sound : IsSoundStore old → IsLost old.pages.below new.pages.below → new.has_failed ≡ true → IsSoundStore new
    lost_sound sound lost failed = record {
      faithful = history.faithful sound.faithful;
      represents = records_same (durable_array old.pages.below) (durable_array new.pages.below) lost.keeps.same sound.represents;
      works = λ works. absurd (false≢true (sym works ∙ failed));
      place = forgot (contents_of new.pages.below).records;
    }

    pub none_committed : (reserve : Reserve) (changes : Changes) (fault : StoreFault) → RefusesCommit fault old new → (fault ≡ Number → (root_of old.pages.below).number ≡ 2 ^ 64 - 1)
        → (IsSoundStore old → CommitsBatch reserve changes (Err fault) before after old.pages.below new.pages.below) → Commits (Err fault) after (store_state old) (store_state new)
    none_committed reserve changes Full counted number batch = record {
      history = keeps (λ sound. holds_sound before new (batch sound).outcome.1.holds (forgot (contents_of new.pages.below).records));
      at_once = λ sound still.
          let back = (batch sound).outcome.1 in
          record { committed = unchanged back; leaves = leaves_before (MayLeaveDuring (Err Full) before after) (λ x is. is) back; left = left_held before new back.holds };
      cause = counted.1;
      failed = counted.0;
      closed = λ had. absurd (false≢true (sym worked ∙ had));
      still = λ sound had. absurd (false≢true (sym worked ∙ had));
    }
    none_committed reserve changes Memory counted number batch = record {
      history = keeps (λ sound. holds_sound before new (batch sound).outcome.holds (forgot (contents_of new.pages.below).records));
      at_once = λ sound still.
          let back = (batch sound).outcome in
          record { committed = unchanged back; leaves = leaves_before (MayLeaveDuring (Err Memory) before after) (λ x is. is) back; left = left_held before new back.holds };
      cause = tt;
      failed = counted;
      closed = λ had. absurd (false≢true (sym worked ∙ had));
      still = λ sound had. absurd (false≢true (sym worked ∙ had));
    }
    none_committed reserve changes Device counted number batch = record {
      history = keeps (λ sound. lost_sound sound (batch sound).outcome counted.failed);
      at_once = λ sound still.
          let done = batch sound in
          let pages = ap (λ (r : RootFields). r.pages) done.outcome.keeps.root in
          let kind = ap (λ (r : RootFields). has_journal r.format) done.outcome.keeps.root in
          record {
            committed = tt;
            leaves = leaves_either before after old new (MayLeaveDuring (Err Device) before after) pages kind (λ x either. either) done.leaves;
            left = left_either before after old new pages kind done.leaves;
          };
      cause = record { counted = inr counted.rose; fault = λ sound. inr (batch sound).outcome.cause };
      failed = counted.failed;
      closed = λ had. refl;
      still = λ sound had. absurd (false≢true (sym worked ∙ had));
    }
    none_committed reserve changes Number counted number batch = record {
      history = keeps (λ sound. holds_sound before new (batch sound).outcome.1.holds (forgot (contents_of new.pages.below).records));
      at_once = λ sound still.
          let back = (batch sound).outcome.1 in
          record { committed = unchanged back; leaves = leaves_before (MayLeaveDuring (Err Number) before after) (λ x is. is) back; left = left_held before new back.holds };
      cause = number refl;
      failed = counted;
      closed = λ had. absurd (false≢true (sym worked ∙ had));
      still = λ sound had. absurd (false≢true (sym worked ∙ had));
    }

  -- a store that has answered Device
  pub commit_closed : (s : TreeStore D g) (after : Contents) → s.has_failed ≡ true → Commits (Err Device) after (store_state s) (store_state s)
  commit_closed s after failed = record {
    history = (nothing_read present content_left s).history;
    at_once = λ sound worked. absurd (false≢true (sym worked ∙ failed));
    cause = record { counted = inl failed; fault = λ sound. inl failed };
    failed = failed;
    closed = λ had. refl;
    still = λ sound had. nothing_read present content_left s;
  }

  -- an empty batch
  pub commit_nothing : (s : TreeStore D g) (after : Contents) → after ≡ contents_of s.pages.below → s.has_failed ≡ false → Commits (Ok tt) after (store_state s) (store_state s)
  commit_nothing s after same worked = record {
    history = (nothing_read present content_left s).history;
    at_once = λ sound still.
        let now : (x : Option Contents) → (store_state s).time.left x → x ≡ Some after = λ x left. settled_now s x sound worked left ∙ ap (λ (c : Contents). Some c) (sym same) in
        record {
          committed = record { map = ap (λ (c : Contents). c.records) (sym same); record_format = ap (λ (c : Contents). c.record_format) (sym same); not_back = omega arith; by_one = omega arith };
          leaves = weakened (store_state s).time.left _ (store_state s).time (store_state s).time (λ x left. inr (now x left)) ((nothing_read present content_left s).leaves sound);
          left = now;
        };
    cause = tt;
    failed = refl;
    closed = λ had. absurd (false≢true (sym worked ∙ had));
    still = λ sound had. absurd (false≢true (sym worked ∙ had));
  }
