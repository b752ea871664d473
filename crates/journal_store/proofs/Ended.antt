-- The journal of a store that was opened with one is turned off: what waits is committed, and then a root that says that there is none.
use Rattle.std.specs.Prelude.{MatchResult}
use Rattle.std.proofs.Common.{max, ◌≡◌, ◌<◌, ◌≤◌, ◌⊎◌, ◌+◌, ◌-◌, ◌^◌, ◌/◌, inl, inr, ⊎_elim, ℕ, Bool, true, false, List, [], Option, Some, Result, Ok, Err, refl, sym, ap, subst, ◌∙◌, arith}
use Rattle.std.proofs.lemmas.Bool.{false≢true}
use Rattle.storage_sizes.specs.declared.record_format.RecordFormat.TheVariants.{V2}
use Rattle.sector_device.specs.Timeline.{LeavesOnly, IsPresent, weakened, joined}
use Rattle.sector_device.specs.Device.{DeviceState, Image, IsLeft, IsBehindRoots, KeepsHistory, timeline, history_joined}
use Rattle.sector_device.specs.declared.device.Device.{Ghosts}
use Rattle.page_roots.specs.Formats.{has_journal}
use Rattle.page_roots.specs.Root.{RootFields}
use Rattle.journal.specs.Chain.{Region}
use Rattle.journal.specs.Journals.{region_in, HasJournal}
use Rattle.cow_pages.specs.declared.cow.CowPages.{CowPages}
use Rattle.cow_pages.specs.Cow.{device_below, root_of}
use Rattle.store.specs.Contents.{changed_by_batch}
use Rattle.store.specs.Records.{Records, Changes}
use Rattle.store.specs.Store.{Contents, Commits, CommitsAtOnce, IsUnchanged, MayLeaveDuring, stored}
use Rattle.store.specs.declared.fault.StoreFault.{StoreFault}
use Rattle.store.specs.declared.fault.StoreFault.TheVariants.{Full, Memory, Device, Number}
use Rattle.transactions.specs.Views.{applied_all}
use Rattle.kv_store.specs.Contents.{HoldsContents, is_journaled}
use Rattle.kv_store.specs.ContentLaws.{same_parts}
use Rattle.kv_store.specs.Numbered.{HasContentsUnder, LeavesBefore}
use Rattle.kv_store.specs.Switching.{LeavesSwitched, IsSwitched, IsNotSwitched, CannotSwitch}
use Rattle.kv_store.specs.TreeStore.{pages_of}
use Rattle.journal_store.specs.declared.stores.JournalStore.{JournalStore}
use Rattle.journal_store.specs.Images.{HasContents, IsJournaledUnder}
use Rattle.journal_store.specs.ImageLaws.{has_journaled}
use Rattle.journal_store.specs.Meaning.{HasJournaledContents, IsNumberOf, with_batches, journal_start, journal_room}
use Rattle.journal_store.specs.Room.{HadNoRoomFor}
use Rattle.journal_store.specs.StoreLaws.{held, ordered, stored_is}
use Rattle.journal_store.specs.Stores.{device_under, base_of, root_number, held_device, HoldsRecords, IsSoundJournal, journal_state}
use Rattle.journal_store.proofs.Checkpoints.{journal_leaves}
use Rattle.journal_store.proofs.Formatted.{failed_later}
use Rattle.journal_store.proofs.Records.{both}
use Rattle.journal_store.specs.declared.device_stores.DeviceStore.TheVariants.{Journaled}
use Rattle.journal_store.specs.DeviceImages.{records_on}
use Rattle.journal_store.specs.DeviceOpening.{IsOpened}
use Rattle.journal_store.specs.DeviceStoreLaws.{sectors_are}
use Rattle.journal_store.specs.DeviceStores.{store_state}
use Rattle.journal_store.proofs.Journaled.{commits_in_journal}
use Rattle.journal_store.specs.declared.switch_fault.SwitchFault.{SwitchFault}
use Rattle.journal_store.specs.declared.switch_fault.SwitchFault.TheVariants.{Refused}
use Rattle.journal_store.specs.Emptying.{RidsOfOlder}
use Rattle.journal_store.specs.Faults.{KeepsContents}
use Rattle.journal_store.specs.TurningOff.{HadOne, HadNoRoomForWaiting, HadNoMapRoomThen, IsOff, IsStillOn, CannotTurnOff}
use Rattle.journal_store.proofs.Beginning.{has_plain, left_under}
use Rattle.journal_store.proofs.SwitchJournaled.{region_same, left_stored, sound_then, had_then, has_then}
use Rattle.journal_store.proofs.Kept.{kept, read_leaves, pages_are}
use Rattle.journal_store.proofs.Rid.{off_by}

-- a commit of nothing leaves the contents
during : (c : Contents) (result : Result (Unit {0}) StoreFault) (x : Option Contents) → MayLeaveDuring result c (changed_by_batch [] c) x → x ≡ Some c
during c (Ok u) x may = ⊎_elim (λ is. is) (λ is. is) may
during c (Err Full) x may = may
during c (Err Memory) x may = may
during c (Err Device) x may = ⊎_elim (λ is. is) (λ is. is) may
during c (Err Number) x may = may

module _ {D : Type 0} {g : Ghosts D} (present : (device : D) → (g.state device).faithful → IsPresent (timeline (g.state device)))
    (content_left : (device : D) (s : ℕ) → (g.state device).faithful → s < (g.state device).sectors → (g.state device).left s ((g.state device).content s))
    (all_beside : (device : D) (s : ℕ) → IsBehindRoots s → (g.state device).beside s)
    (d : DeviceState) (s t : JournalStore D g) (opened : IsOpened d (Journaled s)) (history : KeepsHistory (device_under s) (device_under t)) (faithful : d.faithful) where
  abbrev c : Contents
  c = stored (journal_state s)

  abbrev IsIt : Option Contents → Type 0
  IsIt x = x ≡ Some c

  sound : IsSoundJournal s
  sound = sound_then content_left d s opened faithful

  works : s.store.has_failed ≡ false
  works = opened.has_not_failed

  had : HasContents (d.sectors / 8) c d.content
  had = has_then content_left d s opened faithful d.content (had_then content_left d s opened faithful)

  history_then : KeepsHistory d (device_under t)
  history_then = history_joined d (device_under s) (device_under t) opened.history history

  -- what waits is committed, or not
  module _ (result : Result (Unit {0}) StoreFault) (commits : Commits result (changed_by_batch [] c) (journal_state s) (journal_state t)) where
    commits_on : CommitsAtOnce result (changed_by_batch [] c) (store_state (Journaled s)) (store_state (Journaled t))
    commits_on = (commits_in_journal (Journaled s) s t refl (changed_by_batch []) result commits).at_once sound works

    leaves : LeavesOnly IsIt (records_on (device_under s)) (records_on (device_under t))
    leaves = weakened (MayLeaveDuring result c (changed_by_batch [] c)) IsIt (records_on (device_under s)) (records_on (device_under t)) (during c result) commits_on.leaves

    keeps_then : (e : DeviceState) → LeavesOnly IsIt (records_on (device_under t)) (records_on e) → KeepsContents c d e
    keeps_then e more = kept c d (device_under s) e opened.history.sectors had (opened.content faithful) (joined IsIt (records_on (device_under s)) (records_on (device_under t)) (records_on e) leaves more)

    keeps : KeepsContents c d (device_under t)
    keeps = kept c d (device_under s) (device_under t) opened.history.sectors had (opened.content faithful) leaves

  -- nothing is committed
  still_on : (fault : StoreFault) (commits : Commits (Err fault) (changed_by_batch [] c) (journal_state s) (journal_state t)) → IsUnchanged (journal_state s) (journal_state t) → t.store.has_failed ≡ false
      → (Cause : Contents → ℕ → Type 0) → Cause c (journal_state s).number → IsStillOn Cause d (device_under t)
  still_on fault commits same works_then Cause cause = record {
    contents = c;
    number = (journal_state s).number;
    had = (had_then content_left d s opened faithful).0;
    keeps = keeps (Err fault) commits;
    number_now = (journal_state t).number;
    left = λ image left.
        subst (λ (n : ℕ). IsJournaledUnder n (journal_state t).number c image) (pages_are d (pages_of t.store) history_then.sectors)
        (subst (λ (x : Contents). IsJournaledUnder (root_of (pages_of t.store)).pages (journal_state t).number x image) (same_parts (stored (journal_state t)) c same.record_format same.map)
        (left_stored t (commits.history.sound sound) works_then image left).0);
    not_back = omega (arith, same.number);
    by_one = omega (arith, same.number);
    cause = cause;
  }

  no_room : HadNoRoomFor [] s → HadNoRoomForWaiting g c d
  no_room lacks = record {
    pages = pages_of s.store;
    content = (opened.content faithful).content;
    base = base_of s;
    holds = held s sound works;
    waiting = lacks.changes;
    made = ap (λ (es : Records). let x : Contents = record { record_format = (base_of s).record_format; records = es } in x) (sym (lacks.all (base_of s).records (ordered s sound works)));
    none = lacks.none;
  }

  pub not_ended : (fault : StoreFault) → Commits (Err fault) (changed_by_batch [] c) (journal_state s) (journal_state t) → (fault ≡ Full → HadNoRoomFor [] s) → CannotTurnOff g (Refused fault) d (device_under t)
  not_ended Full commits room =
      still_on Full commits (commits.at_once sound works).committed (commits.failed ∙ works) (λ contents number. HadNoRoomForWaiting g contents d ⊎ HadNoMapRoomThen g contents d) (inl (no_room (room refl)))
  not_ended Memory commits room = still_on Memory commits (commits.at_once sound works).committed (commits.failed ∙ works) (λ contents number. Unit {0}) tt
  not_ended Device commits room = record {
    contents = c;
    keeps = keeps (Err Device) commits;
    cause = failed_later d (device_under s) (device_under t) opened.history.failures history.failures
        (⊎_elim (λ had_failed. absurd (false≢true (sym works ∙ had_failed))) (λ rose. rose) (commits.cause.fault sound));
  }
  not_ended Number commits room = still_on Number commits (commits.at_once sound works).committed (commits.failed ∙ works) (λ contents number. 2 ^ 64 - 2 ≤ number) (omega (arith, commits.cause))

  -- all that waited is in the pages
  module _ (commits : Commits (Ok tt) (changed_by_batch [] c) (journal_state s) (journal_state t)) (anew : root_number t ≡ root_number s + 1) (cleared : t.waiting ≡ []) where
    abbrev p : CowPages D g
    p = pages_of t.store

    abbrev sound_now : IsSoundJournal t
    sound_now = commits.history.sound sound

    abbrev works_now : t.store.has_failed ≡ false
    works_now = commits.failed ∙ works

    abbrev records : HoldsRecords t
    records = sound_now.works works_now

    stored_same : stored (journal_state t) ≡ c
    stored_same = let is = (commits.at_once sound works).committed in same_parts (stored (journal_state t)) c is.record_format is.map

    base_same : base_of t ≡ c
    base_same = ap (λ (ws : List Changes). let x : Contents = record { record_format = (base_of t).record_format; records = applied_all ws (base_of t).records } in x) (sym cleared) ∙ stored_same

    pub holds_all : HoldsContents c p
    holds_all = subst (λ (x : Contents). HoldsContents x p) base_same (held t sound_now works_now)

    pub second_still : c.record_format ≡ V2
    second_still = ap (λ (x : Contents). x.record_format) (sym base_same) ∙ records.second

    faithful_then : (device_under t).faithful
    faithful_then = history_then.faithful faithful

    abbrev HasSame : Image → Type 0
    HasSame image = HasJournal journal_start journal_room (root_number t) records.es image

    on_image : (image : Image) → HasContentsUnder true (root_of p).pages (root_number t) c image → HasSame image → HasJournaledContents (root_of p).pages c image
    on_image image under journal = record {
      root = root_number t;
      base = c;
      under = under;
      second = second_still;
      es = records.es;
      journal = journal;
      batches = records.batches;
      spelled = records.spelled;
      is = sym stored_same ∙ (stored_is t sound_now works_now ∙ ap (λ (x : Contents). with_batches records.batches x) base_same);
    }

    -- the next commit
    module _ (q : CowPages D g) (after : KeepsHistory (device_under t) (device_below q)) where
      journals : LeavesOnly HasSame (timeline (device_under t)) (timeline (device_below q))
      journals = journal_leaves (root_number t) t.top records.es (device_under t) (device_below q) records.holds after faithful_then (all_beside (held_device t)) (present (held_device t) faithful_then)

      abbrev Before : Image → Type 0
      Before image = HasContentsUnder (is_journaled p) (root_of p).pages (root_of p).number c image

      abbrev Either : Image → Type 0
      Either image = Before image ⊎ HasContentsUnder false (root_of p).pages ((root_of p).number + 1) c image

      before_image : (image : Image) → Before image × HasSame image → HasContents (root_of p).pages c image
      before_image image has = has_journaled image (root_of p).pages c
          (on_image image (subst (λ (journal : Bool). HasContentsUnder journal (root_of p).pages (root_of p).number c image) t.journaled has.0) has.1)

      either_image : (image : Image) → Either image × HasSame image → HasContents (root_of p).pages c image
      either_image image has = elim has.0 [
        | inl is ↦ before_image image (is, has.1)
        | inr is ↦ has_plain (root_of p).pages ((root_of p).number + 1) c image is
      ]

      read_on : LeavesOnly (HasContents (root_of p).pages c) (timeline (device_under t)) (timeline (device_below q)) → LeavesOnly IsIt (records_on (device_under t)) (records_on (device_below q))
      read_on leaves_on = read_leaves c (device_under t) (device_below q) after.sectors
          (subst (λ (n : ℕ). LeavesOnly (HasContents n c) (timeline (device_under t)) (timeline (device_below q))) (sectors_are p) leaves_on)

      leaves_before : LeavesBefore c p q → LeavesOnly IsIt (records_on (device_under t)) (records_on (device_below q))
      leaves_before before = read_on (weakened _ (HasContents (root_of p).pages c) (timeline (device_under t)) (timeline (device_below q)) before_image
          (both Before HasSame (timeline (device_under t)) (timeline (device_below q)) before journals))

      leaves_either : LeavesSwitched false c p q → LeavesOnly IsIt (records_on (device_under t)) (records_on (device_below q))
      leaves_either either = read_on (weakened _ (HasContents (root_of p).pages c) (timeline (device_under t)) (timeline (device_below q)) either_image
          (both Either HasSame (timeline (device_under t)) (timeline (device_below q)) either journals))

      under_left : IsNotSwitched c p q → (image : Image) → IsLeft (device_below q) image → HasContentsUnder true (root_of p).pages (root_of p).number c image
      under_left is image left =
          subst (λ (root : RootFields). HasContentsUnder true root.pages root.number c image) is.root
          (subst (λ (journal : Bool). HasContentsUnder journal (root_of q).pages (root_of q).number c image) (ap (λ (root : RootFields). has_journal root.format) is.root ∙ t.journaled) (left_under c q is.holds image left))

      -- no sector of the journal has changed
      journal_there : (image : Image) → IsLeft (device_below q) image → region_in journal_start journal_room (device_under t).content ≡ region_in journal_start journal_room image
      journal_there image left = region_same (device_under t).content image
          (λ n lt.
          let s : ℕ = journal_start + n in
          let behind : IsBehindRoots s = (omega arith, omega (arith, lt)) in
          let inside : s < (device_below q).sectors = omega (arith, lt, records.holds.inside, after.sectors) in
          records.holds.fixed n lt (image s) ((after.beside faithful_then).left s (image s) (all_beside (held_device t) s behind) (left s inside)))

      on_left : IsNotSwitched c p q → (image : Image) → IsLeft (device_below q) image → IsJournaledUnder (root_of p).pages (journal_state t).number c image
      unfolding on_image
      on_left is image left = record {
        has = on_image image (under_left is image left) (journals.now image left);
        number_is = subst (λ (region : Region). IsNumberOf (max (root_number t) t.top) (root_number t) region) (journal_there image left) records.number_is;
      }

      still_on_then : IsNotSwitched c p q → (Cause : Contents → ℕ → Type 0) → Cause c (journal_state s).number → IsStillOn Cause d (device_below q)
      still_on_then is Cause cause = record {
        contents = c;
        number = (journal_state s).number;
        had = (had_then content_left d s opened faithful).0;
        keeps = keeps_then (Ok tt) commits (device_below q) (leaves_before is.leaves);
        number_now = (journal_state t).number;
        left = λ image left. subst (λ (n : ℕ). IsJournaledUnder n (journal_state t).number c image) (pages_are d p history_then.sectors) (on_left is image left);
        not_back = (commits.at_once sound works).committed.not_back;
        by_one = (commits.at_once sound works).committed.by_one;
        cause = cause;
      }

      pub not_switched : (fault : StoreFault) → CannotSwitch fault false c p q → CannotTurnOff g (Refused fault) d (device_below q)
      not_switched Full is = still_on_then is.1 (λ contents number. HadNoRoomForWaiting g contents d ⊎ HadNoMapRoomThen g contents d)
          (inr (record { pages = p; history = history_then; holds = holds_all; none = is.0 }))
      not_switched Memory is = absurd is
      not_switched Device is = record {
        contents = c;
        keeps = keeps_then (Ok tt) commits (device_below q) (leaves_either is.1);
        cause = failed_later d (device_under t) (device_below q) history_then.failures after.failures is.0;
      }
      not_switched Number is = still_on_then is.1 (λ contents number. 2 ^ 64 - 2 ≤ number) (omega (arith, is.0, anew))

      -- the root says that there is no journal
      had_one : IsSwitched false c p q → HadOne (root_of q).number c d
      had_one is =
          let before = had_then content_left d s opened faithful in
          record { before = (journal_state s).number; had = before.0; by_two = omega (arith, is.number_is, anew, before.1) }

      pub switched : IsSwitched false c p q → (e : DeviceState) (result : Result ℕ SwitchFault) → RidsOfOlder (root_of q).number result (device_below q) e
          → MatchResult result (λ number. IsOff number d e) (λ fault. CannotTurnOff g fault d e)
      switched is e result rids =
          let sectors : (device_below q).sectors ≡ d.sectors = after.sectors ∙ history_then.sectors in
          let faithful_now = after.faithful faithful_then in
          off_by d (device_under s) e q c is.holds is.kind opened.history.sectors sectors (omega (arith, history_then.failures, after.failures)) had (opened.content faithful)
          (joined IsIt (records_on (device_under s)) (records_on (device_under t)) (records_on (device_below q)) (leaves (Ok tt) commits) (leaves_either is.leaves))
          result rids faithful_now result (rids.outcome faithful_now) (λ rid. inr (had_one is))
