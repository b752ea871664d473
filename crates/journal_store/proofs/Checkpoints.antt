-- All that waits is committed to the pages: the journal is left alone, and behind the next root it has no record.
use Rattle.std.proofs.Common.{max, ◌≡◌, ◌<◌, ◌⊎◌, ◌+◌, ◌^◌, inl, inr, ⊎_elim, ℕ, Bool, true, false, List, [], Option, Some, Ok, Err, refl, sym, ap, subst, ◌∙◌, arith}
use Rattle.std.proofs.Math.Path.{fun_ext}
use Rattle.std.proofs.lemmas.Bool.{false≢true, cases_lt}
use Rattle.sector_device.specs.Timeline.{Timeline, LeavesOnly, Passes, Implies, IsPresent, read_by, weakened}
use Rattle.sector_device.proofs.Runs.{lifted}
use Rattle.sector_device.specs.Device.{DeviceState, Image, IsBehindRoots, AgreesBeside, KeepsHistory as DeviceHistory, timeline}
use Rattle.sector_device.specs.declared.device.Device.{Ghosts}
use Rattle.page_roots.specs.Root.{RootFields}
use Rattle.journal.specs.Chain.{Region, Entry}
use Rattle.journal.specs.Journal.{IsJournal, NumbersUpTo}
use Rattle.journal.proofs.Journals.{none_of_later}
use Rattle.journal.specs.Journals.{region_in, HasJournal, HoldsJournal}
use Rattle.journal.proofs.Appending.{outside_is, same_sector}
use Rattle.cow_pages.specs.Cow.{root_of}
use Rattle.store.specs.Contents.{changed_by_batch}
use Rattle.store.specs.Records.{Records, Changes, IsOrdered, applied}
use Rattle.store.specs.Store.{Contents, IsUnchanged, Commits, stored}
use Rattle.store.specs.declared.fault.StoreFault.{StoreFault}
use Rattle.store.specs.declared.fault.StoreFault.TheVariants.{Full, Memory, Device, Number}
use Rattle.transactions.specs.Views.{applied_all}
use Rattle.cow_pages.specs.declared.cow.CowPages.{CowPages}
use Rattle.kv_store.specs.declared.reserve.Reserve.{Reserve}
use Rattle.kv_store.specs.Batches.{CommitsBatch, IsTakenBack, HadNoRoom}
use Rattle.kv_store.specs.Contents.{HoldsContents}
use Rattle.kv_store.specs.ContentLaws.{same_parts}
use Rattle.kv_store.specs.Numbered.{HasContentsUnder, LeavesBefore, LeavesEither, LeavesNumbered}
use Rattle.kv_store.specs.TreeStore.{IsSoundStore, pages_of, store_state}
use Rattle.kv_store.proofs.Reading.{contents_are}
use Rattle.journal_store.specs.declared.stores.JournalStore.{JournalStore}
use Rattle.journal_store.specs.Meaning.{HasJournaledContents, IsNumberOf, with_batches, journal_start, journal_room}
use Rattle.journal_store.specs.Images.{IsReadAs}
use Rattle.journal_store.specs.Stores.{device_under, base_of, root_number, IsSoundJournal, journal_state}
use Rattle.journal_store.specs.ImageLaws.{read_is}
use Rattle.journal_store.specs.StoreLaws.{held, ordered, stored_is, settled}
use Rattle.journal_store.proofs.Meanings.{checkpoint_leaves}
use Rattle.journal_store.proofs.Numbers.{under_next}
use Rattle.journal_store.proofs.Records.{both}

-- a commit to the pages found no room
pub full_where : {D : Type 0} {g : Ghosts D} (reserve : Reserve) (fault : StoreFault) (changes : Changes) (before after : Contents) (old new : CowPages D g) → fault ≡ Full → CommitsBatch reserve changes (Err fault) before after old new → HadNoRoom reserve changes before.records old
full_where reserve Full changes before after old new is commits = commits.outcome.0
full_where reserve Memory changes before after old new is commits = absurd cc
full_where reserve Device changes before after old new is commits = absurd cc
full_where reserve Number changes before after old new is commits = absurd cc

-- and its root is as it was
pub full_root : {D : Type 0} {g : Ghosts D} (reserve : Reserve) (fault : StoreFault) (changes : Changes) (before after : Contents) (old new : CowPages D g) → fault ≡ Full → CommitsBatch reserve changes (Err fault) before after old new → root_of new ≡ root_of old
full_root reserve Full changes before after old new is commits = commits.outcome.1.root
full_root reserve Memory changes before after old new is commits = absurd cc
full_root reserve Device changes before after old new is commits = absurd cc
full_root reserve Number changes before after old new is commits = absurd cc

-- where no more is said of the present than what a stop may leave, time that passes is a run
pub passes_leaves : {X : Type 0} (P : X → Type 0) (old new : Timeline X) → IsPresent old → Implies old.left P → Passes P old new → LeavesOnly P old new
passes_leaves P old new present here passes = record {
  later = passes.later;
  past = passes.past;
  each = λ x stop. ⊎_elim (λ was. here x (present x was)) (λ p. p) (passes.before old.moment x (omega arith) stop);
  now = passes.now;
  before = passes.before;
}

-- calls that leave the sectors beside alone leave the journal
module _ (root top : ℕ) (es : List Entry) (d e : DeviceState) (holds : HoldsJournal journal_start journal_room root top es d) (history : DeviceHistory d e) (faithful : d.faithful) (beside : (s : ℕ) → IsBehindRoots s → d.beside s) where
  is_beside : (q : ℕ) → q < journal_room → d.beside (journal_start + q)
  is_beside q lt = beside (journal_start + q) (omega arith, omega (arith, lt))

  same_region : (image : Image) → ((q : ℕ) → q < journal_room → image (journal_start + q) ≡ d.content (journal_start + q)) → region_in journal_start journal_room image ≡ region_in journal_start journal_room d.content
  same_region image same = fun_ext (λ q. elim (cases_lt q journal_room) [
    | inr past ↦ outside_is journal_start journal_room image q past ∙ sym (outside_is journal_start journal_room d.content q past)
    | inl lt ↦ same_sector journal_start journal_room image d.content q lt (same q lt)
  ])

  pub same_now : region_in journal_start journal_room e.content ≡ region_in journal_start journal_room d.content
  same_now = same_region e.content (λ q lt. (history.beside faithful).content (journal_start + q) (is_beside q lt))

  pub journal_kept : HoldsJournal journal_start journal_room root top es e
  journal_kept = record {
    inside = omega (arith, holds.inside, history.sectors);
    fixed = λ q lt c left. holds.fixed q lt c ((history.beside faithful).left (journal_start + q) c (is_beside q lt) left) ∙ sym ((history.beside faithful).content (journal_start + q) (is_beside q lt));
    journal = subst (λ (region : Region). IsJournal region root journal_room es) (sym same_now) holds.journal;
    few = subst (λ (region : Region). NumbersUpTo top region) (sym same_now) holds.few;
  }

  agrees_has : (image : Image) → AgreesBeside d image → HasJournal journal_start journal_room root es image
  agrees_has image agrees =
      let same = same_region image (λ q lt. holds.fixed q lt (image (journal_start + q)) (agrees (journal_start + q) (omega (arith, lt, holds.inside)) (is_beside q lt))) in
      subst (λ (region : Region). IsJournal region root journal_room es) (sym same) holds.journal

  pub journal_leaves : IsPresent (timeline d) → LeavesOnly (HasJournal journal_start journal_room root es) (timeline d) (timeline e)
  journal_leaves present =
      weakened (AgreesBeside d) (HasJournal journal_start journal_room root es) (timeline d) (timeline e) agrees_has
      (passes_leaves (AgreesBeside d) (timeline d) (timeline e) present (λ image left s inside is. left s inside) (history.beside faithful).any_moment)

module _ {D : Type 0} {g : Ghosts D} (present : (device : D) → (g.state device).faithful → IsPresent (timeline (g.state device))) (all_beside : (device : D) (s : ℕ) → IsBehindRoots s → (g.state device).beside s)
    (s t : JournalStore D g) (batch joined : Changes) (works : s.store.has_failed ≡ false)
    (joins : (es : Records) → IsOrdered es → applied joined es ≡ applied batch (applied_all s.waiting es))
    (top : t.top ≡ s.top) (history : DeviceHistory (device_under s) (device_under t)) where
  abbrev after : Contents
  after = changed_by_batch batch (stored (journal_state s))

  module _ (sound : IsSoundJournal s) where
    abbrev made : Contents
    made = changed_by_batch joined (base_of s)

    made_is : made ≡ after
    made_is = same_parts made after refl (joins (base_of s).records (ordered s sound works))

    journals : LeavesOnly (HasJournal journal_start journal_room (root_number s) (sound.works works).es) (timeline (device_under s)) (timeline (device_under t))
    journals = journal_leaves (root_number s) s.top (sound.works works).es (device_under s) (device_under t) (sound.works works).holds history sound.pages.faithful
        (all_beside (pages_of s.store).device) (present (pages_of s.store).device sound.pages.faithful)

    kept : HoldsJournal journal_start journal_room (root_number s) s.top (sound.works works).es (device_under t)
    kept = journal_kept (root_number s) s.top (sound.works works).es (device_under s) (device_under t) (sound.works works).holds history sound.pages.faithful (all_beside (pages_of s.store).device)

    region_kept : region_in journal_start journal_room (device_under t).content ≡ region_in journal_start journal_room (device_under s).content
    region_kept = same_now (root_number s) s.top (sound.works works).es (device_under s) (device_under t) (sound.works works).holds history sound.pages.faithful (all_beside (pages_of s.store).device)

    abbrev Before : Image → Type 0
    Before image = HasJournaledContents (root_of (pages_of s.store)).pages (with_batches (sound.works works).batches (base_of s)) image

    abbrev Either : Image → Type 0
    Either image = Before image ⊎ HasJournaledContents (root_of (pages_of s.store)).pages made image

    is_before : (image : Image) (x : Option Contents) → Before image → IsReadAs (root_of (pages_of s.store)).pages image x → x ≡ Some (stored (journal_state s))
    is_before image x has read = read_is image (root_of (pages_of s.store)).pages _ x has read ∙ ap (λ (c : Contents). Some c) (sym (stored_is s sound works))

    is_either : (image : Image) (x : Option Contents) → Either image → IsReadAs (root_of (pages_of s.store)).pages image x → (x ≡ Some (stored (journal_state s))) ⊎ (x ≡ Some after)
    is_either image x has read = elim has [
      | inl is ↦ inl (is_before image x is read)
      | inr is ↦ inr (read_is image (root_of (pages_of s.store)).pages made x is read ∙ ap (λ (c : Contents). Some c) made_is)
    ]

    either_image : (image : Image) → (HasContentsUnder true (root_of (pages_of s.store)).pages (root_number s) (base_of s) image ⊎ HasContentsUnder true (root_of (pages_of s.store)).pages (root_number s + 1) made image)
        × HasJournal journal_start journal_room (root_number s) (sound.works works).es image → Either image
    either_image image has = checkpoint_leaves image (root_of (pages_of s.store)).pages (root_number s) (base_of s) made (sound.works works).es (sound.works works).batches
        (sound.works works).second (sound.works works).second (sound.works works).spelled has.1 has.0

    before_image : (image : Image) → HasContentsUnder true (root_of (pages_of s.store)).pages (root_number s) (base_of s) image × HasJournal journal_start journal_room (root_number s) (sound.works works).es image → Before image
    before_image image has = record {
      root = root_number s;
      base = base_of s;
      under = has.0;
      second = (sound.works works).second;
      es = (sound.works works).es;
      journal = has.1;
      batches = (sound.works works).batches;
      spelled = (sound.works works).spelled;
      is = refl;
    }

    -- the root says that there is a journal
    abbrev BeforeUnder : Bool → Image → Type 0
    BeforeUnder journal image = HasContentsUnder journal (root_of (pages_of s.store)).pages (root_number s) (base_of s) image

    abbrev EitherUnder : Bool → Image → Type 0
    EitherUnder journal image = BeforeUnder journal image ⊎ HasContentsUnder journal (root_of (pages_of s.store)).pages (root_number s + 1) made image

    before_journaled : LeavesBefore (base_of s) (pages_of s.store) (pages_of t.store) → LeavesOnly (BeforeUnder true) (timeline (device_under s)) (timeline (device_under t))
    before_journaled leaves = subst (λ (journal : Bool). LeavesOnly (BeforeUnder journal) (timeline (device_under s)) (timeline (device_under t))) s.journaled leaves

    either_journaled : LeavesEither (base_of s) made (pages_of s.store) (pages_of t.store) → LeavesOnly (EitherUnder true) (timeline (device_under s)) (timeline (device_under t))
    either_journaled leaves = subst (λ (journal : Bool). LeavesOnly (EitherUnder journal) (timeline (device_under s)) (timeline (device_under t))) s.journaled leaves

    -- of the pages, where they have as many as before
    module _ (same_pages : (root_of (pages_of t.store)).pages ≡ (root_of (pages_of s.store)).pages) where
      read_on : (Q : Option Contents → Type 0) → LeavesOnly Q (journal_state s).time (read_by (IsReadAs (root_of (pages_of s.store)).pages) (timeline (device_under t))) → LeavesOnly Q (journal_state s).time (journal_state t).time
      read_on Q leaves = subst (λ (n : ℕ). LeavesOnly Q (journal_state s).time (read_by (IsReadAs n) (timeline (device_under t)))) (sym same_pages) leaves

      leaves_either : LeavesEither (base_of s) made (pages_of s.store) (pages_of t.store) → LeavesOnly (λ x. (x ≡ Some (stored (journal_state s))) ⊎ (x ≡ Some after)) (journal_state s).time (journal_state t).time
      leaves_either leaves = read_on _
          (lifted (IsReadAs (root_of (pages_of s.store)).pages) Either _ (timeline (device_under s)) (timeline (device_under t)) is_either
          (weakened _ Either (timeline (device_under s)) (timeline (device_under t)) either_image (both _ _ (timeline (device_under s)) (timeline (device_under t)) (either_journaled leaves) journals)))

      leaves_before : LeavesBefore (base_of s) (pages_of s.store) (pages_of t.store) → LeavesOnly (λ x. x ≡ Some (stored (journal_state s))) (journal_state s).time (journal_state t).time
      leaves_before leaves = read_on _
          (lifted (IsReadAs (root_of (pages_of s.store)).pages) Before _ (timeline (device_under s)) (timeline (device_under t)) is_before
          (weakened _ Before (timeline (device_under s)) (timeline (device_under t)) before_image (both _ _ (timeline (device_under s)) (timeline (device_under t)) (before_journaled leaves) journals)))

  -- all is committed
  module _ (waiting : t.waiting ≡ []) (ends : t.end ≡ 0) (commits : Commits (Ok tt) (changed_by_batch joined (base_of s)) (store_state s.store) (store_state t.store)) (anew : root_number t ≡ root_number s + 1)
      (numbered : (contents : Contents) → HoldsContents contents (pages_of s.store) → LeavesEither contents (changed_by_batch joined contents) (pages_of s.store) (pages_of t.store))
      (reserve : Reserve) (whole : (contents : Contents) → HoldsContents contents (pages_of s.store) → CommitsBatch reserve joined (Ok tt) contents (changed_by_batch joined contents) (pages_of s.store) (pages_of t.store)) where
    base_after : (sound : IsSoundJournal s) → base_of t ≡ changed_by_batch joined (base_of s)
    base_after sound = contents_are (changed_by_batch joined (base_of s)) (pages_of t.store) (whole (base_of s) (held s sound works)).outcome.holds

    number_after : IsSoundJournal s → IsNumberOf (max (root_number t) t.top) (root_number t) (region_in journal_start journal_room (device_under t).content)
    number_after sound =
        subst (λ (n : ℕ). IsNumberOf (max (root_number t) n) (root_number t) (region_in journal_start journal_room (device_under t).content)) (sym top)
        (subst (λ (region : Region). IsNumberOf (max (root_number t) s.top) (root_number t) region) (sym (region_kept sound))
        (under_next (root_number s) (root_number t) s.top (region_in journal_start journal_room (device_under s).content) anew (sound.works works).number_is))

    sound_after : IsSoundJournal s → IsSoundJournal t
    sound_after sound = record {
      pages = commits.history.sound sound.pages;
      works = λ is.
          let k = kept sound in
          record {
            second = ap (λ (c : Contents). c.record_format) (base_after sound) ∙ (sound.works works).second;
            es = [];
            holds = record {
              inside = k.inside;
              fixed = k.fixed;
              journal = none_of_later (region_in journal_start journal_room (device_under t).content) (root_number s) (root_number t) journal_room (sound.works works).es k.journal (omega (arith, anew));
              few = subst (λ (n : ℕ). NumbersUpTo n (region_in journal_start journal_room (device_under t).content)) (sym top) k.few;
            };
            batches = [];
            spelled = tt;
            waits = λ es in_order. ap (λ (w : List Changes). applied_all w es) waiting;
            end_is = sym ends;
            number_is = number_after sound;
          };
    }

    stored_after : (sound : IsSoundJournal s) → stored (journal_state t) ≡ after
    stored_after sound =
        ap (λ (w : List Changes). let c : Contents = record { record_format = (base_of t).record_format; records = applied_all w (base_of t).records } in c) waiting ∙ (base_after sound ∙ made_is sound)

    pub checkpointed : Commits (Ok tt) after (journal_state s) (journal_state t)
    checkpointed = record {
      history = record { sound = sound_after; fulls = commits.history.fulls; failures = commits.history.failures; faults = commits.history.faults };
      at_once = λ sound worked.
          let leaves = leaves_either sound (whole (base_of s) (held s sound works)).outcome.pages (numbered (base_of s) (held s sound works)) in
          record {
            committed = record {
              map = ap (λ (c : Contents). c.records) (stored_after sound);
              record_format = ap (λ (c : Contents). c.record_format) (stored_after sound);
              not_back = omega (arith, anew, top);
              by_one = omega (arith, anew, top);
            };
            leaves = leaves;
            left = λ x left. settled t (sound_after sound) (commits.failed ∙ works) x left ∙ ap (λ (c : Contents). Some c) (stored_after sound);
          };
      cause = tt;
      failed = commits.failed;
      closed = λ had. absurd (false≢true (sym works ∙ had));
      still = λ sound had. absurd (false≢true (sym works ∙ had));
    }

  -- nothing is committed
  module _ (waiting : t.waiting ≡ s.waiting) (ends : t.end ≡ s.end) where
    module _ (sound : IsSoundJournal s) (back : IsTakenBack (base_of s) (pages_of s.store) (pages_of t.store)) where
      base_back : base_of t ≡ base_of s
      base_back = contents_are (base_of s) (pages_of t.store) back.holds

      same_number : root_number t ≡ root_number s
      same_number = ap (λ (r : RootFields). r.number) back.root

      sound_back : IsSoundStore t.store → IsSoundJournal t
      sound_back pages = record {
        pages = pages;
        works = λ is.
            let r = sound.works works in
            record {
              second = ap (λ (c : Contents). c.record_format) base_back ∙ r.second;
              es = r.es;
              holds = subst (λ (n : ℕ). HoldsJournal journal_start journal_room n t.top r.es (device_under t)) (sym same_number)
                  (subst (λ (n : ℕ). HoldsJournal journal_start journal_room (root_number s) n r.es (device_under t)) (sym top) (kept sound));
              batches = r.batches;
              spelled = r.spelled;
              waits = λ es in_order. ap (λ (w : List Changes). applied_all w es) waiting ∙ r.waits es in_order;
              end_is = r.end_is ∙ sym ends;
              number_is = subst (λ (n : ℕ). IsNumberOf (max n t.top) n (region_in journal_start journal_room (device_under t).content)) (sym same_number)
                  (subst (λ (n : ℕ). IsNumberOf (max (root_number s) n) (root_number s) (region_in journal_start journal_room (device_under t).content)) (sym top)
                  (subst (λ (region : Region). IsNumberOf (max (root_number s) s.top) (root_number s) region) (sym (region_kept sound)) r.number_is));
            };
      }

      stored_back : stored (journal_state t) ≡ stored (journal_state s)
      stored_back =
          ap (λ (w : List Changes). let c : Contents = record { record_format = (base_of t).record_format; records = applied_all w (base_of t).records } in c) waiting
          ∙ ap (λ (b : Contents). let c : Contents = record { record_format = b.record_format; records = applied_all s.waiting b.records } in c) base_back

      unchanged : IsUnchanged (journal_state s) (journal_state t)
      unchanged = record { map = ap (λ (c : Contents). c.records) stored_back; record_format = ap (λ (c : Contents). c.record_format) stored_back; number = omega (arith, same_number, top) }

      leaves_back : LeavesBefore (base_of s) (pages_of s.store) (pages_of t.store) → LeavesOnly (λ x. x ≡ Some (stored (journal_state s))) (journal_state s).time (journal_state t).time
      leaves_back leaves = leaves_before sound (ap (λ (r : RootFields). r.pages) back.root) leaves

      left_back : IsSoundStore t.store → t.store.has_failed ≡ false → (x : Option Contents) → (journal_state t).time.left x → x ≡ Some (stored (journal_state s))
      left_back pages still x left = settled t (sound_back pages) still x left ∙ ap (λ (c : Contents). Some c) stored_back

    -- by the fault
    pub not_checkpointed : (reserve : Reserve) (fault : StoreFault) → s.top < 2 ^ 64 → Commits (Err fault) (changed_by_batch joined (base_of s)) (store_state s.store) (store_state t.store)
        → ((contents : Contents) → HoldsContents contents (pages_of s.store) → LeavesNumbered (Err fault) contents (changed_by_batch joined contents) (pages_of s.store) (pages_of t.store))
        → ((contents : Contents) → HoldsContents contents (pages_of s.store) → CommitsBatch reserve joined (Err fault) contents (changed_by_batch joined contents) (pages_of s.store) (pages_of t.store))
        → Commits (Err fault) after (journal_state s) (journal_state t)
    not_checkpointed reserve Full fits commits numbered whole = record {
      history = record { sound = λ sound. sound_back sound (whole (base_of s) (held s sound works)).outcome.1 (commits.history.sound sound.pages); fulls = commits.history.fulls; failures = commits.history.failures; faults = commits.history.faults };
      at_once = λ sound worked.
          let back = (whole (base_of s) (held s sound works)).outcome.1 in
          record { committed = unchanged sound back; leaves = leaves_back sound back (numbered (base_of s) (held s sound works)); left = left_back sound back (commits.history.sound sound.pages) (commits.failed ∙ works) };
      cause = commits.cause;
      failed = commits.failed;
      closed = λ had. absurd (false≢true (sym works ∙ had));
      still = λ sound had. absurd (false≢true (sym works ∙ had));
    }
    not_checkpointed reserve Memory fits commits numbered whole = record {
      history = record { sound = λ sound. sound_back sound (whole (base_of s) (held s sound works)).outcome (commits.history.sound sound.pages); fulls = commits.history.fulls; failures = commits.history.failures; faults = commits.history.faults };
      at_once = λ sound worked.
          let back = (whole (base_of s) (held s sound works)).outcome in
          record { committed = unchanged sound back; leaves = leaves_back sound back (numbered (base_of s) (held s sound works)); left = left_back sound back (commits.history.sound sound.pages) (commits.failed ∙ works) };
      cause = tt;
      failed = commits.failed;
      closed = λ had. absurd (false≢true (sym works ∙ had));
      still = λ sound had. absurd (false≢true (sym works ∙ had));
    }
    not_checkpointed reserve Device fits commits numbered whole = record {
      history = record { sound = λ sound. record { pages = commits.history.sound sound.pages; works = λ is. absurd (false≢true (sym is ∙ commits.failed)) }; fulls = commits.history.fulls; failures = commits.history.failures; faults = commits.history.faults };
      at_once = λ sound worked.
          let leaves = leaves_either sound (ap (λ (r : RootFields). r.pages) (whole (base_of s) (held s sound works)).outcome.keeps.root) (numbered (base_of s) (held s sound works)) in
          record { committed = tt; leaves = leaves; left = λ x left. leaves.now x left };
      cause = record { counted = commits.cause.counted; fault = λ sound. commits.cause.fault sound.pages };
      failed = commits.failed;
      closed = λ had. refl;
      still = λ sound had. absurd (false≢true (sym works ∙ had));
    }
    not_checkpointed reserve Number fits commits numbered whole = record {
      history = record { sound = λ sound. sound_back sound (whole (base_of s) (held s sound works)).outcome.1 (commits.history.sound sound.pages); fulls = commits.history.fulls; failures = commits.history.failures; faults = commits.history.faults };
      at_once = λ sound worked.
          let back = (whole (base_of s) (held s sound works)).outcome.1 in
          record { committed = unchanged sound back; leaves = leaves_back sound back (numbered (base_of s) (held s sound works)); left = left_back sound back (commits.history.sound sound.pages) (commits.failed ∙ works) };
      cause = omega (arith, commits.cause, fits);
      failed = commits.failed;
      closed = λ had. absurd (false≢true (sym works ∙ had));
      still = λ sound had. absurd (false≢true (sym works ∙ had));
    }
