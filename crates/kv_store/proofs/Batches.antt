-- What is left of a batch, whenever a stop comes.
use Rattle.std.proofs.Common.{◌≡◌, ◌≢◌, ◌≤◌, ◌+◌, ◌⊎◌, inl, inr, ℕ, true, refl, sym, ap, ◌∙◌, subst, arith}
use Rattle.std.specs.Prelude.{IsSome}
use Rattle.std.proofs.lemmas.Bool.{false≢true}
use Rattle.sector_device.specs.Timeline.{LeavesOnly, weakened, joined}
use Rattle.sector_device.specs.Device.{Image, HasFailed, KeepsHistory, timeline}
use Rattle.sector_device.specs.declared.device.Device.{Ghosts}
use Rattle.store.specs.Records.{Records, Changes}
use Rattle.page_roots.specs.Formats.{record_format_of, has_journal}
use Rattle.page_roots.specs.declared.format.Format.{Format}
use Rattle.page_roots.specs.Root.{RootFields}
use Rattle.cow_pages.specs.declared.cow.CowPages.{CowPages}
use Rattle.cow_pages.specs.Image.{Means, bytes_of_page, page_of, array_of}
use Rattle.cow_pages.specs.Held.{AreSpelled}
use Rattle.cow_pages.specs.Commit.{IsEither}
use Rattle.cow_pages.specs.Cow.{device_below, root_of, has_failed, durable_array, working_array, IsOpen, LeavesDurable, StaysDurable, LeavesBeforeOrAfter}
use Rattle.cow_pages.specs.Calls.{IsAbandoned, IsCommitted, IsNumbered}
use Rattle.cow_pages.specs.Preserved.{IsPreserved}
use Rattle.cow_pages.specs.PreservedLaws.{failed_later, few}
use Rattle.cow_pages.proofs.Parts.{spelled_map}
use Rattle.page_tree.specs.Forest.{Represents}
use Rattle.page_tree.proofs.Represented.{one_map, map_of_same, root_used}
use Rattle.store.specs.Store.{Contents}
use Rattle.store.specs.declared.fault.StoreFault.{StoreFault}
use Rattle.store.specs.declared.fault.StoreFault.TheVariants.{Full, Memory, Device, Number}
use Rattle.kv_store.specs.declared.reserve.Reserve.{Reserve}
use Rattle.kv_store.specs.Contents.{HasContentsWith, HoldsContents, LeavesContents, is_journaled}
use Rattle.kv_store.specs.ContentLaws.{same_parts}
use Rattle.kv_store.specs.Batches.{applied_in_turn, KeepsDurable, IsGivenUp, IsLost, CannotFinish, IsBatchCommitted, IsTakenBack, CannotCommitBatch}
use Rattle.kv_store.specs.Reserve.{KeepsReserve}
use Rattle.kv_store.proofs.Sparing.{no_map_room}

module _ {D : Type 0} {g : Ghosts D} (before after : Contents) (old mid : CowPages D g) where
  abbrev Either : Image → Type 0
  Either image = HasContentsWith (is_journaled old) (root_of old).pages before image ⊎ HasContentsWith (is_journaled old) (root_of old).pages after image

  -- the batch before its commit
  pub leaves_before : HoldsContents before old → LeavesDurable old mid → LeavesContents before after old mid
  leaves_before holds leaves =
      weakened _ Either (timeline (device_below old)) (timeline (device_below mid))
      (λ image means. inl (record {
        format = (root_of old).format;
        number = (root_of old).number;
        array = durable_array old;
        means = means;
        kind = refl;
        spelled = holds.spelled;
        represents = holds.durable;
      })) leaves

  -- a call that leaves the device alone leaves no more
  pub leaves_still : (new : CowPages D g) → new.device ≡ mid.device → LeavesContents before after old mid → LeavesContents before after old new
  leaves_still new device leaves =
      subst (λ (d : D). LeavesOnly Either (timeline (device_below old)) (timeline (g.state d))) (sym device) leaves

  -- either array of a commit
  either_contents : (next : Format) → record_format_of next ≡ after.record_format → has_journal next ≡ is_journaled old → HoldsContents before old → root_of mid ≡ root_of old
      → Represents before.records (durable_array mid) → Represents after.records (working_array mid)
      → (image : Image) → IsEither (root_of mid).pages (root_of mid).format (root_of mid).number next (durable_array mid) (working_array mid) image → Either image
  either_contents next spelled kind holds root was is image either = elim either [
    | inl means ↦ inl (record {
      format = (root_of mid).format;
      number = (root_of mid).number;
      array = durable_array mid;
      means = subst (λ (r : RootFields). Means r.pages (root_of mid).format (root_of mid).number (durable_array mid) image) root means;
      kind = ap (λ (r : RootFields). has_journal r.format) root;
      spelled = ap (λ (r : RootFields). record_format_of r.format) root ∙ holds.spelled;
      represents = was;
    })
    | inr means ↦ inr (record {
      format = next;
      number = (root_of mid).number + 1;
      array = working_array mid;
      means = subst (λ (r : RootFields). Means r.pages next ((root_of mid).number + 1) (working_array mid) image) root means;
      kind = kind;
      spelled = spelled;
      represents = is;
    })
  ]

  -- the batch with its commit
  pub leaves_either : (new : CowPages D g) (next : Format) → record_format_of next ≡ after.record_format → has_journal next ≡ is_journaled old → root_of mid ≡ root_of old → HoldsContents before old → Represents before.records (durable_array mid)
      → LeavesDurable old mid → Represents after.records (working_array mid) → LeavesBeforeOrAfter next mid new → LeavesContents before after old new
  leaves_either new next spelled kind root holds was leaves is both =
      joined Either (timeline (device_below old)) (timeline (device_below mid)) (timeline (device_below new)) (leaves_before holds leaves)
      (weakened _ Either (timeline (device_below mid)) (timeline (device_below new)) (either_contents next spelled kind holds root was is) both)

-- pages whose device and durable map are the same hold the same durable array
pub same_durable : {D : Type 0} {g : Ghosts D} (p q : CowPages D g) → q.device ≡ p.device → q.map.durable.items ≡ p.map.durable.items → (l : ℕ) → durable_array q l ≡ durable_array p l
same_durable {D} {g} p q device durable l = rw (device, durable) refl

-- so do open pages with one device and one root, whose map pages spell one map
one_durable : {D : Type 0} {g : Ghosts D} (p q : CowPages D g) → IsOpen p → IsOpen q → q.device ≡ p.device → root_of q ≡ root_of p → (l : ℕ) → durable_array q l ≡ durable_array p l
one_durable {D} {g} p q p_open q_open device root l =
    let content = (g.state p.device).content in
    let maps = (root_of p).maps in
    let spelled : AreSpelled (bytes_of_page content) maps q.map.durable.items =
    subst (λ (r : RootFields). AreSpelled (bytes_of_page content) r.maps q.map.durable.items) root
    (subst (λ (d : D). AreSpelled (bytes_of_page (g.state d).content) (root_of q).maps q.map.durable.items) device q_open.settled.durable.held.spelled) in
    ap (λ (d : D). array_of (g.state d).content q.map.durable.items l) device
    ∙ ap (λ (n : ℕ). page_of content n)
    (sym (spelled_map (bytes_of_page content) maps q.map.durable.items spelled l) ∙ spelled_map (bytes_of_page content) maps p.map.durable.items p_open.settled.durable.held.spelled l)

-- pages that hold contents represent them in the working array, too
pub working_holds : {D : Type 0} {g : Ghosts D} (contents : Contents) (p : CowPages D g) → HoldsContents contents p → Represents contents.records (working_array p)
working_holds {D} {g} contents p holds = map_of_same (durable_array p) (working_array p) contents.records (λ l. sym (holds.same l)) holds.durable

-- and their first page is in use
pub first_used : {D : Type 0} {g : Ghosts D} (records : Records) (p : CowPages D g) → Represents records (working_array p) → IsSome (working_array p 0)
first_used {D} {g} records p represents = root_used (working_array p) records (λ l some. few p l some) represents

-- a batch whose changes were made, or failed, before its commit
module _ {D : Type 0} {g : Ghosts D} (before : Contents) (old mid : CowPages D g) (holds : HoldsContents before old) (preserved : IsPreserved old mid)
    (leaves : LeavesDurable old mid) (stays : StaysDurable old mid) where
  pub still_represents : Represents before.records (durable_array mid)
  still_represents = map_of_same (durable_array old) (durable_array mid) before.records (λ l. sym (stays.same l)) holds.durable

  kept_on : (new : CowPages D g) → KeepsDurable mid new → KeepsDurable old new
  kept_on new keeps = record { root = keeps.root ∙ preserved.preserved.root; same = λ l. keeps.same l ∙ stays.same l }

  pub taken_back : (new : CowPages D g) → IsGivenUp mid new → IsTakenBack before old new
  taken_back new given = record {
    holds = record {
      is_open = given.is_open;
      spelled = ap (λ (r : RootFields). record_format_of r.format) (kept_on new given.keeps).root ∙ holds.spelled;
      durable = map_of_same (durable_array old) (durable_array new) before.records (λ l. sym ((kept_on new given.keeps).same l)) holds.durable;
      same = given.working;
    };
    leaves = leaves_still before before old mid new given.device (leaves_before before before old mid holds leaves);
    root = (kept_on new given.keeps).root;
  }

  -- the changes are abandoned
  module _ (new : CowPages D g) (abandoned : IsAbandoned mid new) (still : IsPreserved mid new) where
    abandoned_keeps : KeepsDurable mid new
    abandoned_keeps = record { root = still.preserved.root; same = same_durable mid new abandoned.device still.preserved.durable }

    pub abandoned_back : IsOpen mid → IsTakenBack before old new
    abandoned_back opened = taken_back new (record {
      device = abandoned.device;
      is_open = abandoned.is_open opened;
      keeps = abandoned_keeps;
      working = λ l. abandoned.array l ∙ sym (abandoned_keeps.same l);
    })

    pub abandoned_lost : has_failed new ≡ true → IsLost old new
    abandoned_lost failed = record {
      has_failed = failed;
      cause = subst (λ (d : D). HasFailed (device_below old) (g.state d)) (sym abandoned.device)
          (elim (preserved.cause (sym abandoned.has_failed ∙ failed)) [
            | inl was ↦ absurd (false≢true (sym holds.is_open.has_not_failed ∙ was))
            | inr now ↦ now
          ]);
      keeps = kept_on new abandoned_keeps;
    }

    pub abandoned_leaves : (after : Contents) → LeavesContents before after old new
    abandoned_leaves after = leaves_still before after old mid new abandoned.device (leaves_before before after old mid holds leaves)

  -- the changes are committed
  module _ (after : Contents) (new : CowPages D g) (next : Format) (spelled : record_format_of next ≡ after.record_format) (kind : has_journal next ≡ is_journaled old) (represents : Represents after.records (working_array mid)) (opened : IsOpen mid) where
    same_root : (root_of mid).number ≡ (root_of old).number
    same_root = ap (λ (r : RootFields). r.number) preserved.preserved.root

    number_is : IsNumbered next mid new → ((root_of old).number ≤ (root_of new).number) × ((root_of new).number ≤ (root_of old).number + 1)
    number_is numbered = elim numbered [
      | inl none ↦ let same : (root_of new).number ≡ (root_of mid).number = ap (λ (r : RootFields). r.number) none.3 in (omega (arith, same, same_root), omega (arith, same, same_root))
      | inr rise ↦ (omega (arith, rise, same_root), omega (arith, rise, same_root))
    ]

    -- where no root was written, the working array is the one that was durable before, in the format that it was in
    unchanged : (root_of mid).format ≡ next → ((l : ℕ) → durable_array new l ≡ working_array mid l) → ((l : ℕ) → durable_array new l ≡ durable_array mid l) → before ≡ after
    unchanged format durable same =
        same_parts before after (sym holds.spelled ∙ (ap (λ (r : RootFields). record_format_of r.format) (sym preserved.preserved.root) ∙ (ap record_format_of format ∙ spelled)))
        (one_map (working_array mid) before.records after.records (λ l some. few mid l some)
        (map_of_same (durable_array mid) (working_array mid) before.records (λ l. sym (same l) ∙ durable l) still_represents) represents)

    rises_by_one : IsOpen new → ((l : ℕ) → durable_array new l ≡ working_array mid l) → IsNumbered next mid new → before ≢ after → (root_of new).number ≡ (root_of old).number + 1
    rises_by_one is_open durable numbered differs = elim numbered [
      | inl none ↦ absurd (differs (unchanged none.0 durable (one_durable mid new opened is_open none.2 none.3)))
      | inr rise ↦ omega (arith, rise, same_root)
    ]

    pub committed : (reserve : Reserve) → KeepsReserve reserve old new → IsCommitted next mid new → IsBatchCommitted reserve before after old new
    committed reserve spares is =
        let durable = is.durable opened in
        record {
          holds = record {
            is_open = durable.is_open;
            spelled = ap record_format_of is.format ∙ spelled;
            durable = map_of_same (working_array mid) (durable_array new) after.records (λ l. sym (durable.durable l)) represents;
            same = λ l. durable.working l ∙ sym (durable.durable l);
          };
          pages = durable.pages ∙ ap (λ (r : RootFields). r.pages) preserved.preserved.root;
          kind = ap has_journal is.format ∙ kind;
          not_back = (number_is durable.numbered).0;
          by_one = (number_is durable.numbered).1;
          rises = rises_by_one durable.is_open durable.durable durable.numbered;
          spares = spares;
        }

    pub cannot_commit : (reserve : Reserve) (changes : Changes) → Represents (applied_in_turn changes before.records) (working_array mid) → KeepsHistory (device_below mid) (device_below new) → (fault : StoreFault) → CannotFinish fault mid new → CannotCommitBatch reserve fault changes before old new
    cannot_commit reserve changes stand history Full is =
        (no_map_room reserve changes before.records old (record { mid = mid; preserved = preserved; holds = stand; few = is.0 }), taken_back new is.1)
    cannot_commit reserve changes stand history Memory is = absurd is
    cannot_commit reserve changes stand history Device is = record {
      has_failed = is.has_failed;
      cause = failed_later (device_below old) (device_below mid) (device_below new) preserved.preserved.history history is.cause;
      keeps = kept_on new is.keeps;
    }
    cannot_commit reserve changes stand history Number is = (sym same_root ∙ is.0, taken_back new is.1)
