-- A store with a journal that works: what a stop leaves of it, and a record behind the others.
use Rattle.std.proofs.Common.{leb, eqb, ◌&&◌, drop, ◌≡◌, ◌<◌, ◌≤◌, ◌⊎◌, ◌+◌, ◌/◌, ◌-◌, ◌^◌, ◌++◌, inl, inr, ⊎_elim, ℕ, Bool, true, false, List, [], ◌∷◌, Option, Some, None, Ok, Err, length, get_or, max, refl, sym, ap, subst, ◌∙◌, arith}
use Rattle.std.specs.Str.{bytes_eq}
use Rattle.std.proofs.lemmas.Bool.{false≢true, leb-true}
use Rattle.byteorder.specs.Endian.{big_number}
use Rattle.page_roots.specs.Root.{RootFields, home, root_bytes}
use Rattle.page_roots.specs.Sector.{root_at, fields_in, may_stand, maps_named, zeros as root_zeros}
use Rattle.page_roots.specs.declared.sector.RootSector.TheVariants.{Found}
use Rattle.page_roots.proofs.Reading.{past_tests, both as both_true}
use Rattle.storage_sizes.specs.declared.record_format.RecordFormat.TheVariants.{V2}
use Rattle.sector_device.specs.Timeline.{Timeline, LeavesOnly, IsPresent, read_by, weakened}
use Rattle.sector_device.proofs.Runs.{started, lifted, present_lifted}
use Rattle.sector_device.specs.Device.{Image, IsSynced, KeepsSize, timeline}
use Rattle.sector_device.specs.Sectors.{WritesSectors, HoldsSectors}
use Rattle.sector_device.specs.declared.device.Device.{Ghosts}
use Rattle.journal.specs.Chain.{Entry, Holds, part_of}
use Rattle.journal.proofs.Chaining.{end_with}
use Rattle.journal.specs.Changes.{Spells, change_then}
use Rattle.journal.specs.Records.{entry_of}
use Rattle.journal.specs.Sectors.{sector_at}
use Rattle.journal.proofs.Parts.{length-parts_of}
use Rattle.journal.specs.Journals.{region_in, HoldsJournal, CanAppend, IsAppended}
use Rattle.journal.proofs.Appending.{leaves_written, appended_now}
use Rattle.cow_pages.specs.Cow.{device_below, root_of}
use Rattle.store.specs.Contents.{changed_by_batch}
use Rattle.store.specs.Records.{Records, Changes, IsOrdered, applied}
use Rattle.store.specs.Store.{Contents, MayLeaveDuring, Commits, stored}
use Rattle.store.specs.declared.fault.StoreFault.TheVariants.{Memory, Device, Number}
use Rattle.transactions.specs.Views.{applied_all}
use Rattle.kv_store.specs.declared.tree_store.TreeStore.{TreeStore}
use Rattle.kv_store.specs.Beside.{KeepsStore, IsWrittenBeside, FailsBeside}
use Rattle.kv_store.specs.Contents.{HoldsContents, contents_of}
use Rattle.kv_store.specs.ContentLaws.{same_parts}
use Rattle.kv_store.specs.Numbered.{HasContentsUnder, LeavesBefore}
use Rattle.kv_store.specs.TreeStore.{IsSoundStore, pages_of}
use Rattle.journal_store.specs.declared.stores.JournalStore.{JournalStore}
use Rattle.journal_store.specs.Meaning.{HasJournaledContents, IsNumberOf, with_batches, joined_parts, journal_start, journal_room}
use Rattle.journal_store.specs.Images.{IsReadAs}
use Rattle.journal_store.specs.Stores.{device_under, base_of, root_number, HoldsRecords, IsSoundJournal, state_with, journal_state}
use Rattle.journal_store.specs.ImageLaws.{read_is}
use Rattle.journal_store.specs.StoreLaws.{held, ordered, stored_is, settled}
use Rattle.journal_store.proofs.Numbers.{greater, last_stands}
use Rattle.journal_store.proofs.Reading.{nothing_read}
use Rattle.journal_store.proofs.Meanings.{record_leaves, spell_more, applied_more, joined_is}

-- what a run leaves has both
pub both : {X : Type 0} (P Q : X → Type 0) (old new : Timeline X) → LeavesOnly P old new → LeavesOnly Q old new → LeavesOnly (λ x. P x × Q x) old new
both P Q old new first second = record {
  later = first.later;
  past = first.past;
  each = λ x stop. (first.each x stop, second.each x stop);
  now = λ x left. (first.now x left, second.now x left);
  before = λ a x le stop. ⊎_elim (λ was. inl was) (λ p. ⊎_elim (λ was. inl was) (λ q. inr (p, q)) (second.before a x le stop)) (first.before a x le stop);
}

-- a root that is found has a number of at least 1
number_is_some : (sector : ℕ) (bytes : List ℕ) (root : RootFields) → root_at sector bytes ≡ Found root → 1 ≤ root.number
unfolding root_at fields_in
number_is_some sector bytes root found =
    let count : ℕ = maps_named bytes in
    let number : ℕ = big_number 8 (drop 16 bytes) in
    let past = past_tests (bytes_eq bytes root_zeros) (may_stand sector bytes && bytes_eq bytes (root_bytes (fields_in bytes))) (fields_in bytes) root found in
    let tests = both_true (may_stand sector bytes) (bytes_eq bytes (root_bytes (fields_in bytes))) past.0 in
    let some = both_true (leb 1 count) (leb count 64 && (leb 1 number && eqb (home number) sector)) tests.0 in
    let most = both_true (leb count 64) (leb 1 number && eqb (home number) sector) some.1 in
    let last = both_true (leb 1 number) (eqb (home number) sector) most.1 in
    let le : 1 ≤ number = leb-true 1 number last.0 in
    subst (λ (r : RootFields). 1 ≤ r.number) past.1 le

-- the number of a root that is held is at least 1
root_is_some : {D : Type 0} {g : Ghosts D} (s : JournalStore D g) (sound : IsSoundJournal s) (works : s.store.has_failed ≡ false) → 1 ≤ root_number s
root_is_some s sound works = number_is_some (home (root_number s)) ((device_under s).content (home (root_number s))) (root_of (pages_of s.store)) (held s sound works).is_open.settled.durable.here

-- memory was refused before anything was written
module _ {D : Type 0} {g : Ghosts D} (present : (device : D) → (g.state device).faithful → IsPresent (timeline (g.state device))) (s t : JournalStore D g) (after : Contents) (works : s.store.has_failed ≡ false)
    (store : t.store ≡ s.store) (waiting : t.waiting ≡ s.waiting) (top : t.top ≡ s.top) (ends : t.end ≡ s.end) where
  sound_same : IsSoundJournal s → IsSoundJournal t
  sound_same sound = record {
    pages = subst (λ (x : TreeStore D g). IsSoundStore x) (sym store) sound.pages;
    works = λ is.
        let r = sound.works works in
        record {
          second = subst (λ (x : TreeStore D g). (contents_of (pages_of x)).record_format ≡ V2) (sym store) r.second;
          es = r.es;
          holds = subst (λ (x : TreeStore D g). HoldsJournal journal_start journal_room (root_of (pages_of x)).number t.top r.es (device_below (pages_of x))) (sym store)
              (subst (λ (n : ℕ). HoldsJournal journal_start journal_room (root_number s) n r.es (device_under s)) (sym top) r.holds);
          batches = r.batches;
          spelled = r.spelled;
          waits = λ es in_order. ap (λ (w : List Changes). applied_all w es) waiting ∙ r.waits es in_order;
          end_is = r.end_is ∙ sym ends;
          number_is = subst (λ (x : TreeStore D g). IsNumberOf (max (root_of (pages_of x)).number t.top) (root_of (pages_of x)).number (region_in journal_start journal_room (device_below (pages_of x)).content)) (sym store)
              (subst (λ (n : ℕ). IsNumberOf (max (root_number s) n) (root_number s) (region_in journal_start journal_room (device_under s).content)) (sym top) r.number_is);
        };
  }

  refused_at : Commits (Err Memory) after (journal_state s) (state_with (IsSoundJournal t) s.store s.waiting s.top)
  refused_at = record {
    history = record { sound = sound_same; fulls = omega arith; failures = omega arith; faults = omega arith };
    at_once = λ sound worked.
        let now : IsPresent (journal_state s).time = present_lifted (IsReadAs (root_of (pages_of s.store)).pages) (timeline (device_under s)) (present (pages_of s.store).device sound.pages.faithful) in
        record {
          committed = record { map = refl; record_format = refl; number = refl };
          leaves = started (MayLeaveDuring (Err Memory) (stored (journal_state s)) after) (journal_state s).time now (λ x left. settled s sound works x left);
          left = λ x left. settled s sound works x left;
        };
    cause = tt;
    failed = refl;
    closed = λ had. absurd (false≢true (sym works ∙ had));
    still = λ sound had. absurd (false≢true (sym works ∙ had));
  }

  pub refused_memory : Commits (Err Memory) after (journal_state s) (journal_state t)
  refused_memory =
      subst (λ (x : TreeStore D g). Commits (Err Memory) after (journal_state s) (state_with (IsSoundJournal t) x t.waiting t.top)) (sym store)
      (subst (λ (w : List Changes). Commits (Err Memory) after (journal_state s) (state_with (IsSoundJournal t) s.store w t.top)) (sym waiting)
      (subst (λ (n : ℕ). Commits (Err Memory) after (journal_state s) (state_with (IsSoundJournal t) s.store s.waiting n)) (sym top) refused_at))

-- a record is appended
module _ {D : Type 0} {g : Ghosts D} (present : (device : D) → (g.state device).faithful → IsPresent (timeline (g.state device)))
    (content_left : (device : D) (s : ℕ) → (g.state device).faithful → s < (g.state device).sectors → (g.state device).left s ((g.state device).content s))
    (s t : JournalStore D g) (batch : Changes) (number : ℕ) (bytes : List ℕ) (sectors : List (List ℕ))
    (works : s.store.has_failed ≡ false) (next : number ≡ (journal_state s).number + 1) (spells : Spells bytes batch) (some : 1 ≤ length bytes / 488) (fits : s.end + length bytes / 488 ≤ 6)
    (count : length sectors ≡ length bytes / 488)
    (spelled : (i : ℕ) → 1 ≤ root_number s → i < length sectors → sector_at 6 (get_or sectors i []) ≡ Holds (part_of (root_number s) (entry_of number bytes) i))
    (waits : (es : Records) → IsOrdered es → applied_all t.waiting es ≡ applied batch (applied_all s.waiting es))
    (size : KeepsSize (device_under s) (device_under t)) (writes : (device_under s).faithful → WritesSectors (2 + s.end) sectors (device_under s) (device_under t))
    (leaves : (contents : Contents) → HoldsContents contents (pages_of s.store) → LeavesBefore contents (pages_of s.store) (pages_of t.store)) (keeps : KeepsStore s.store t.store) where
  abbrev entry : Entry
  entry = entry_of number bytes

  abbrev after : Contents
  after = changed_by_batch batch (stored (journal_state s))

  parts : length entry.parts ≡ length bytes / 488
  parts = length-parts_of (length bytes / 488) bytes

  entry_spells : Spells (joined_parts entry.parts) batch
  entry_spells = subst (λ (xs : List ℕ). Spells xs batch) (sym (joined_is bytes spells.whole)) spells

  same_root : root_number t ≡ root_number s
  same_root = ap (λ (r : RootFields). r.number) keeps.root

  same_pages : (root_of (pages_of t.store)).pages ≡ (root_of (pages_of s.store)).pages
  same_pages = ap (λ (r : RootFields). r.pages) keeps.root

  module _ (sound : IsSoundJournal s) where
    can : CanAppend journal_start journal_room (root_number s) s.top (sound.works works).es entry (2 + s.end) sectors (device_under s)
    can = record {
      holds = (sound.works works).holds;
      follows = record { above = omega (arith, next); some = omega (arith, some, parts); fits = omega (arith, fits, parts, (sound.works works).end_is) };
      place = omega (arith, (sound.works works).end_is);
      count = count ∙ sym parts;
      spelled = λ i lt. spelled i (root_is_some s sound works) lt;
    }

    same_base : base_of t ≡ base_of s
    same_base = keeps.contents sound.pages

    -- the records after it
    map_after : applied_all t.waiting (base_of t).records ≡ after.records
    map_after = ap (λ (c : Contents). applied_all t.waiting c.records) same_base ∙ waits (base_of s).records (ordered s sound works)

    stored_after : after ≡ changed_by_batch batch (with_batches (sound.works works).batches (base_of s))
    stored_after = ap (λ (c : Contents). changed_by_batch batch c) (stored_is s sound works)

    -- a stop during it
    abbrev Either : Image → Type 0
    Either image = HasJournaledContents (root_of (pages_of s.store)).pages (with_batches (sound.works works).batches (base_of s)) image
        ⊎ HasJournaledContents (root_of (pages_of s.store)).pages (changed_by_batch batch (with_batches (sound.works works).batches (base_of s))) image

    -- the root says that there is a journal
    journaled : LeavesBefore (base_of s) (pages_of s.store) (pages_of t.store) → LeavesOnly (HasContentsUnder true (root_of (pages_of s.store)).pages (root_number s) (base_of s)) (timeline (device_under s)) (timeline (device_under t))
    journaled leaves = subst (λ (journal : Bool). LeavesOnly (HasContentsUnder journal (root_of (pages_of s.store)).pages (root_number s) (base_of s)) (timeline (device_under s)) (timeline (device_under t))) s.journaled leaves

    leaves_either : LeavesOnly Either (timeline (device_under s)) (timeline (device_under t))
    leaves_either =
        let journals = leaves_written journal_start journal_room (root_number s) s.top (sound.works works).es entry (2 + s.end) sectors (device_under s) can (device_under t) (writes sound.pages.faithful).any_moment in
        weakened _ Either (timeline (device_under s)) (timeline (device_under t))
        (λ image has. record_leaves image (root_of (pages_of s.store)).pages (root_number s) (base_of s) (sound.works works).es (sound.works works).batches entry batch has.0 (sound.works works).second (sound.works works).spelled entry_spells has.1)
        (both _ _ (timeline (device_under s)) (timeline (device_under t)) (journaled (leaves (base_of s) (held s sound works))) journals)

    read_either : (image : Image) (x : Option Contents) → Either image → IsReadAs (root_of (pages_of s.store)).pages image x → (x ≡ Some (stored (journal_state s))) ⊎ (x ≡ Some after)
    read_either image x has read = elim has [
      | inl is ↦ inl (read_is image (root_of (pages_of s.store)).pages _ x is read ∙ ap (λ (c : Contents). Some c) (sym (stored_is s sound works)))
      | inr is ↦ inr (read_is image (root_of (pages_of s.store)).pages _ x is read ∙ ap (λ (c : Contents). Some c) (sym stored_after))
    ]

    pub leaves_store : LeavesOnly (λ x. (x ≡ Some (stored (journal_state s))) ⊎ (x ≡ Some after)) (journal_state s).time (journal_state t).time
    leaves_store =
        subst (λ (n : ℕ). LeavesOnly (λ x. (x ≡ Some (stored (journal_state s))) ⊎ (x ≡ Some after)) (journal_state s).time (read_by (IsReadAs n) (timeline (device_under t)))) (sym same_pages)
        (lifted (IsReadAs (root_of (pages_of s.store)).pages) Either _ (timeline (device_under s)) (timeline (device_under t)) read_either leaves_either)

  -- the device failed
  pub append_failed : FailsBeside s.store t.store → Commits (Err Device) after (journal_state s) (journal_state t)
  append_failed fails = record {
    history = record {
      sound = λ sound. record { pages = keeps.sound sound.pages; works = λ is. absurd (false≢true (sym is ∙ fails.failed)) };
      fulls = omega (arith, keeps.fulls);
      failures = keeps.failures;
      faults = size.failures;
    };
    at_once = λ sound worked. record { committed = tt; leaves = leaves_store sound; left = λ x left. (leaves_store sound).now x left };
    cause = record {
      counted = elim fails.cause [
        | inl had ↦ inl had
        | inr counted ↦ inr counted.0.rose
      ];
      fault = λ sound. elim fails.cause [
        | inl had ↦ inl had
        | inr counted ↦ inr (counted.1 sound.pages)
      ];
    };
    failed = fails.failed;
    closed = λ had. refl;
    still = λ sound had. absurd (false≢true (sym works ∙ had));
  }

  -- all is written
  module _ (top : t.top ≡ number) (ends : t.end ≡ s.end + length sectors) (done : IsWrittenBeside s.store t.store)
      (written : (device_under s).faithful → HoldsSectors (2 + s.end) sectors (device_under t).content) (synced : (device_under s).faithful → IsSynced (device_under t)) (inside : 2 + s.end + length sectors ≤ (device_under s).sectors) where
    appended : (sound : IsSoundJournal s) → IsAppended journal_start journal_room (root_number s) (sound.works works).es entry (device_under t)
    appended sound =
        appended_now journal_start journal_room (root_number s) s.top (sound.works works).es entry (2 + s.end) sectors (device_under s) (can sound) (device_under t)
        (writes sound.pages.faithful) (written sound.pages.faithful) (synced sound.pages.faithful) size.sectors (λ q lt. content_left (pages_of s.store).device q sound.pages.faithful lt) inside

    -- its number is the greatest
    number_more : (sound : IsSoundJournal s) → IsNumberOf (max (root_number t) t.top) (root_number t) (region_in journal_start journal_room (device_under t).content)
    number_more sound =
        let region = region_in journal_start journal_room (device_under t).content in
        let holds = (appended sound).holds in
        subst (λ (n : ℕ). IsNumberOf (max (root_number t) n) (root_number t) region) (sym top)
        (greater (root_number t) number region (record {
          up_to = holds.few;
          reached = inr (last_stands region (root_number s) 0 0 journal_room (sound.works works).es entry holds.journal.chain);
        }))

    holds_more : (sound : IsSoundJournal s) → HoldsRecords t
    holds_more sound = record {
      second = ap (λ (c : Contents). c.record_format) (same_base sound) ∙ (sound.works works).second;
      es = (sound.works works).es ++ entry ∷ [];
      holds = subst (λ (n : ℕ). HoldsJournal journal_start journal_room n t.top ((sound.works works).es ++ entry ∷ []) (device_under t)) (sym same_root)
          (subst (λ (n : ℕ). HoldsJournal journal_start journal_room (root_number s) n ((sound.works works).es ++ entry ∷ []) (device_under t)) (sym top) (appended sound).holds);
      batches = (sound.works works).batches ++ batch ∷ [];
      spelled = spell_more (sound.works works).es (sound.works works).batches entry batch (sound.works works).spelled entry_spells;
      waits = λ es in_order. waits es in_order ∙ (ap (λ (rs : Records). applied batch rs) ((sound.works works).waits es in_order) ∙ sym (applied_more (sound.works works).batches batch es));
      end_is = end_with 0 (sound.works works).es entry ∙ omega (arith, (sound.works works).end_is, parts, count, ends);
      number_is = number_more sound;
    }

    sound_after : IsSoundJournal s → IsSoundJournal t
    sound_after sound = record { pages = keeps.sound sound.pages; works = λ is. holds_more sound }

    pub append_done : Commits (Ok tt) after (journal_state s) (journal_state t)
    append_done =
        let still : t.store.has_failed ≡ false = done.works ∙ works in
        record {
          history = record { sound = sound_after; fulls = omega (arith, keeps.fulls); failures = omega (arith, done.counts.failures); faults = size.failures };
          at_once = λ sound worked.
              let now : stored (journal_state t) ≡ after = same_parts (stored (journal_state t)) after (ap (λ (c : Contents). c.record_format) (same_base sound)) (map_after sound) in
              record {
                committed = record { map = map_after sound; record_format = ap (λ (c : Contents). c.record_format) (same_base sound); not_back = omega (arith, top, next, same_root); by_one = omega (arith, top, next, same_root) };
                leaves = leaves_store sound;
                left = λ x left. settled t (sound_after sound) still x left ∙ ap (λ (c : Contents). Some c) now;
              };
          cause = tt;
          failed = done.works;
          closed = λ had. absurd (false≢true (sym works ∙ had));
          still = λ sound had. absurd (false≢true (sym works ∙ had));
        }

-- a commit of a store whose number is the last one is refused
module _ {D : Type 0} {g : Ghosts D} (present : (device : D) → (g.state device).faithful → IsPresent (timeline (g.state device))) (s : JournalStore D g) (after : Contents) where
  pub refused_number : s.store.has_failed ≡ false → (journal_state s).number ≡ 2 ^ 64 - 1 → Commits (Err Number) after (journal_state s) (journal_state s)
  refused_number works last = record {
    history = record { sound = λ sound. sound; fulls = omega arith; failures = omega arith; faults = omega arith };
    at_once = λ sound worked.
        let now : IsPresent (journal_state s).time = present_lifted (IsReadAs (root_of (pages_of s.store)).pages) (timeline (device_under s)) (present (pages_of s.store).device sound.pages.faithful) in
        record {
          committed = record { map = refl; record_format = refl; number = refl };
          leaves = started (MayLeaveDuring (Err Number) (stored (journal_state s)) after) (journal_state s).time now (λ x left. settled s sound works x left);
          left = λ x left. settled s sound works x left;
        };
    cause = last;
    failed = refl;
    closed = λ had. absurd (false≢true (sym works ∙ had));
    still = λ sound had. absurd (false≢true (sym works ∙ had));
  }

  -- and one of a store that has answered Device
  pub refused_closed : s.store.has_failed ≡ true → Commits (Err Device) after (journal_state s) (journal_state s)
  refused_closed failed = record {
    history = record { sound = λ sound. sound; fulls = omega arith; failures = omega arith; faults = omega arith };
    at_once = λ sound worked. absurd (false≢true (sym worked ∙ failed));
    cause = record { counted = inl failed; fault = λ sound. inl failed };
    failed = failed;
    closed = λ had. refl;
    still = λ sound had. nothing_read present s;
  }

  -- and one of no change is Ok
  pub committed_nothing : s.store.has_failed ≡ false → Commits (Ok tt) (stored (journal_state s)) (journal_state s) (journal_state s)
  committed_nothing works = record {
    history = record { sound = λ sound. sound; fulls = omega arith; failures = omega arith; faults = omega arith };
    at_once = λ sound worked.
        let now : IsPresent (journal_state s).time = present_lifted (IsReadAs (root_of (pages_of s.store)).pages) (timeline (device_under s)) (present (pages_of s.store).device sound.pages.faithful) in
        record {
          committed = record { map = refl; record_format = refl; not_back = omega arith; by_one = omega arith };
          leaves = started (MayLeaveDuring (Ok tt) (stored (journal_state s)) (stored (journal_state s))) (journal_state s).time now (λ x left. inl (settled s sound works x left));
          left = λ x left. settled s sound works x left;
        };
    cause = tt;
    failed = refl;
    closed = λ had. absurd (false≢true (sym works ∙ had));
    still = λ sound had. absurd (false≢true (sym works ∙ had));
  }

-- a batch that changes something takes a part at least
pub some_part : (bytes : List ℕ) (batch : Changes) → (batch ≡ [] → ⊥) → Spells bytes batch → 1 ≤ length bytes / 488
some_part bytes [] not spells = absurd (not refl)
some_part bytes (c ∷ cs) not spells = omega (arith, spells.whole, ap (λ (xs : List ℕ). length xs) spells.is ∙ some_bytes c.0 c.1 _)
  where
    some_bytes : (key : List ℕ) (value : Option (List ℕ)) (rest : List ℕ) → length (change_then key value rest) ≡ length (change_then key value rest) - 1 + 1
    some_bytes key None rest = omega arith
    some_bytes key (Some value) rest = omega arith
