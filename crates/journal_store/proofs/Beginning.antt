-- A journal is made behind the roots of pages: zeros in its sectors, and then the root that says so.
use Rattle.std.specs.Prelude.{MatchResult, OnOk}
use Rattle.std.proofs.Common.{◌≡◌, ◌<◌, ◌≤◌, ◌⊎◌, ◌+◌, inl, inr, ⊎_elim, ℕ, Bool, true, false, [], Result, Ok, Err, refl, ap, subst, ◌∙◌, arith}
use Rattle.sector_device.specs.Timeline.{LeavesOnly, IsPresent, weakened, joined}
use Rattle.sector_device.specs.Device.{DeviceState, Image, HasFailed, IsLeft, IsBehindRoots, KeepsHistory, KeepsSize, timeline}
use Rattle.sector_device.specs.declared.device.Device.{Ghosts}
use Rattle.storage_sizes.specs.declared.record_format.RecordFormat.TheVariants.{V2}
use Rattle.page_roots.specs.Formats.{has_journal}
use Rattle.page_roots.specs.Root.{RootFields}
use Rattle.journal.specs.Journals.{region_in, HasJournal, HoldsJournal}
use Rattle.cow_pages.specs.declared.cow.CowPages.{CowPages}
use Rattle.cow_pages.specs.Cow.{device_below, root_of, durable_array, HasNoRoomForMaps}
use Rattle.cow_pages.proofs.Meaning.{settled_left}
use Rattle.store.specs.Store.{Contents}
use Rattle.store.specs.declared.fault.StoreFault.{StoreFault}
use Rattle.store.specs.declared.fault.StoreFault.TheVariants.{Full, Memory, Device, Number}
use Rattle.kv_store.specs.Contents.{HoldsContents, is_journaled}
use Rattle.kv_store.specs.Numbered.{HasContentsUnder, LeavesBefore}
use Rattle.kv_store.specs.Switching.{SwitchesKind, LeavesSwitched, IsSwitched, IsNotSwitched, CannotSwitch}
use Rattle.journal_store.specs.Clearing.{ClearsSome, IsCleared}
use Rattle.journal_store.specs.Formatting.{HasNoParts}
use Rattle.journal_store.specs.Images.{HasContents, IsJournaledUnder}
use Rattle.journal_store.specs.ImageLaws.{has_journaled}
use Rattle.journal_store.specs.Meaning.{HasJournaledContents, journal_start, journal_room}
use Rattle.journal_store.proofs.Checkpoints.{journal_leaves}
use Rattle.journal_store.proofs.Clearing.{cleared_holds, no_numbers, no_parts_blank}
use Rattle.journal_store.proofs.Formatted.{failed_later}
use Rattle.journal_store.proofs.Records.{both}
use Rattle.journal_store.specs.Beginning.{HasBegun, HasNotBegun, HadNoMapRoom, Begins}

-- what a stop leaves of pages that hold contents
pub left_under : {D : Type 0} {g : Ghosts D} (contents : Contents) (p : CowPages D g) → HoldsContents contents p → (image : Image) → IsLeft (device_below p) image
    → HasContentsUnder (is_journaled p) (root_of p).pages (root_of p).number contents image
left_under contents p holds image left = record {
  format = (root_of p).format;
  array = durable_array p;
  means = settled_left (device_below p) image (root_of p) p.map.durable.items holds.is_open.settled left;
  kind = refl;
  spelled = holds.spelled;
  represents = holds.durable;
}

-- an image whose root says that there is no journal has contents
pub has_plain : (pages number : ℕ) (contents : Contents) (image : Image) → HasContentsUnder false pages number contents image → HasContents pages contents image
has_plain pages number contents image has = record { number = number; is = inl has }

-- and one whose root says that there is one, in whose journal nothing stands
pub has_blank : (pages number : ℕ) (contents : Contents) (image : Image) → contents.record_format ≡ V2 → HasContentsUnder true pages number contents image
    → HasJournal journal_start journal_room number [] image → HasJournaledContents pages contents image
has_blank pages number contents image second under journal = record {
  root = number;
  base = contents;
  under = under;
  second = second;
  es = [];
  journal = journal;
  batches = [];
  spelled = tt;
  is = refl;
}

pub blank_under : (pages number : ℕ) (contents : Contents) (image : Image) → contents.record_format ≡ V2 → HasContentsUnder true pages number contents image
    → HasJournal journal_start journal_room number [] image → HasNoParts image → IsJournaledUnder pages number contents image
unfolding has_blank
blank_under pages number contents image second under journal none =
    let region = region_in journal_start journal_room image in
    record {
      has = has_blank pages number contents image second under journal;
      number_is = record {
        not_below = omega arith;
        up_to = λ q part is. omega (arith, no_numbers region (no_parts_blank image none) q part is);
        reached = inl refl;
      };
    }

module _ {D : Type 0} {g : Ghosts D} (present : (device : D) → (g.state device).faithful → IsPresent (timeline (g.state device))) (all_beside : (device : D) (s : ℕ) → IsBehindRoots s → (g.state device).beside s)
    (d : DeviceState) (q r : CowPages D g) (c : Contents) (room : 8 ≤ d.sectors) (size : KeepsSize d (device_below q)) (clears : ClearsSome d (device_below q)) (cleared : IsCleared (device_below q))
    (holds : HoldsContents c q) (second : c.record_format ≡ V2) (kind : is_journaled q ≡ false)
    (first : LeavesOnly (HasContents (root_of q).pages c) (timeline d) (timeline (device_below q))) (history : KeepsHistory (device_below q) (device_below r)) where
  abbrev HasBlank : Image → Type 0
  HasBlank image = HasJournal journal_start journal_room ((root_of q).number + 1) [] image

  cleared_now : HoldsJournal journal_start journal_room ((root_of q).number + 1) 0 [] (device_below q)
  cleared_now = cleared_holds ((root_of q).number + 1) (device_below q) (omega (arith, room, size.sectors)) cleared

  journals : LeavesOnly HasBlank (timeline (device_below q)) (timeline (device_below r))
  journals = journal_leaves ((root_of q).number + 1) 0 [] (device_below q) (device_below r) cleared_now history holds.is_open.faithful (all_beside q.device) (present q.device holds.is_open.faithful)

  still_off : (image : Image) → HasContentsUnder (is_journaled q) (root_of q).pages (root_of q).number c image → HasContentsUnder false (root_of q).pages (root_of q).number c image
  still_off image has = subst (λ (journal : Bool). HasContentsUnder journal (root_of q).pages (root_of q).number c image) kind has

  before_image : (image : Image) → HasContentsUnder (is_journaled q) (root_of q).pages (root_of q).number c image → HasContents (root_of q).pages c image
  before_image image has = has_plain (root_of q).pages (root_of q).number c image (still_off image has)

  abbrev Either : Image → Type 0
  Either image = HasContentsUnder (is_journaled q) (root_of q).pages (root_of q).number c image ⊎ HasContentsUnder true (root_of q).pages ((root_of q).number + 1) c image

  either_image : (image : Image) → Either image × HasBlank image → HasContents (root_of q).pages c image
  either_image image has = elim has.0 [
    | inl is ↦ before_image image is
    | inr is ↦ has_journaled image (root_of q).pages c (has_blank (root_of q).pages ((root_of q).number + 1) c image second is has.1)
  ]

  leaves_before : LeavesBefore c q r → LeavesOnly (HasContents (root_of q).pages c) (timeline d) (timeline (device_below r))
  leaves_before leaves = joined (HasContents (root_of q).pages c) (timeline d) (timeline (device_below q)) (timeline (device_below r)) first
      (weakened _ (HasContents (root_of q).pages c) (timeline (device_below q)) (timeline (device_below r)) before_image leaves)

  leaves_either : LeavesSwitched true c q r → LeavesOnly (HasContents (root_of q).pages c) (timeline d) (timeline (device_below r))
  leaves_either leaves = joined (HasContents (root_of q).pages c) (timeline d) (timeline (device_below q)) (timeline (device_below r)) first
      (weakened _ (HasContents (root_of q).pages c) (timeline (device_below q)) (timeline (device_below r)) either_image
      (both Either HasBlank (timeline (device_below q)) (timeline (device_below r)) leaves journals))

  -- nothing stands in the journal
  none_left : (image : Image) → IsLeft (device_below r) image → HasNoParts image
  none_left image left s behind =
      let inside : s < (device_below r).sectors = omega (arith, behind.1, room, size.sectors, history.sectors) in
      let inside_before : s < (device_below q).sectors = omega (arith, behind.1, room, size.sectors) in
      cleared.synced s inside_before (image s) ((history.beside holds.is_open.faithful).left s (image s) (all_beside q.device s behind) (left s inside)) ∙ cleared.cleared s behind

  on_left : IsSwitched true c q r → (image : Image) → IsLeft (device_below r) image → HasContentsUnder true (root_of q).pages ((root_of q).number + 1) c image
  on_left is image left =
      subst (λ (pages : ℕ). HasContentsUnder true pages ((root_of q).number + 1) c image) is.pages
      (subst (λ (n : ℕ). HasContentsUnder true (root_of r).pages n c image) is.number_is
      (subst (λ (journal : Bool). HasContentsUnder journal (root_of r).pages (root_of r).number c image) is.kind (left_under c r is.holds image left)))

  begun : IsSwitched true c q r → HasBegun c (root_of q) (device_below r)
  begun is image left = (
    blank_under (root_of q).pages ((root_of q).number + 1) c image second (on_left is image left) (journals.now image left) (none_left image left),
    none_left image left,
  )

  not_begun : IsNotSwitched c q r → HasNotBegun c (root_of q) (device_below r)
  not_begun is image left = still_off image
      (subst (λ (root : RootFields). HasContentsUnder (is_journaled q) root.pages root.number c image) is.root
      (subst (λ (journal : Bool). HasContentsUnder journal (root_of r).pages (root_of r).number c image) (ap (λ (root : RootFields). has_journal root.format) is.root) (left_under c r is.holds image left)))

  had_no_room : HasNoRoomForMaps q → HadNoMapRoom c (root_of q).number d q
  had_no_room none = record {
    holds = holds;
    number_is = refl;
    none = none;
    content = λ s. ⊎_elim (λ same. inl same) (λ behind. inr behind.0) (clears.content s);
  }

  later_failed : HasFailed (device_below q) (device_below r) → HasFailed d (device_below r)
  later_failed failed = failed_later d (device_below q) (device_below r) size.failures history.failures failed

  pub begins : (result : Result (Unit {0}) StoreFault) → SwitchesKind true result q r → Begins g c result (root_of q) d (device_below r)
  begins result switches = by result (switches c holds second)
    where
      cannot : (fault : StoreFault) → CannotSwitch fault true c q r → Begins g c (Err fault) (root_of q) d (device_below r)
      cannot Full is = record { leaves = leaves_before is.1.leaves; outcome = ((q, had_no_room is.0), not_begun is.1) }
      cannot Memory is = absurd is
      cannot Device is = record { leaves = leaves_either is.1; outcome = later_failed is.0 }
      cannot Number is = record { leaves = leaves_before is.1.leaves; outcome = (is.0, not_begun is.1) }

      by : (result : Result (Unit {0}) StoreFault) → MatchResult result (λ _. IsSwitched true c q r) (λ fault. CannotSwitch fault true c q r) → Begins g c result (root_of q) d (device_below r)
      by (Ok x) is = record { leaves = leaves_either is.leaves; outcome = begun is }
      by (Err fault) is = cannot fault is

-- where sectors are written beside, a stop leaves the contents
pub before_leaves : {D : Type 0} {g : Ghosts D} (p q : CowPages D g) (c : Contents) → is_journaled p ≡ false → LeavesBefore c p q → LeavesOnly (HasContents (root_of p).pages c) (timeline (device_below p)) (timeline (device_below q))
before_leaves p q c kind leaves = weakened _ (HasContents (root_of p).pages c) (timeline (device_below p)) (timeline (device_below q))
    (λ image has. has_plain (root_of p).pages (root_of p).number c image (subst (λ (journal : Bool). HasContentsUnder journal (root_of p).pages (root_of p).number c image) kind has)) leaves

-- the number of the next root
pub number_risen : {D : Type 0} {g : Ghosts D} (p q r : CowPages D g) (c : Contents) → root_of q ≡ root_of p → HoldsContents c q → c.record_format ≡ V2 → (result : Result (Unit {0}) StoreFault) → SwitchesKind true result q r
    → OnOk result ((root_of r).number ≡ (root_of p).number + 1)
number_risen p q r c same holds second (Ok x) switches = (switches c holds second).number_is ∙ ap (λ (root : RootFields). root.number + 1) same
number_risen p q r c same holds second (Err fault) switches = tt
