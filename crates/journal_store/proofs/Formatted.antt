-- A new store with a journal.
use Rattle.std.proofs.Common.{◌≡◌, ◌<◌, ◌≤◌, ◌/◌, inl, inr, ⊎_elim, ℕ, true, List, [], ◌∷◌, Some, refl, subst, ◌∙◌, arith}
use Rattle.std.proofs.lemmas.Bool.{cases_lt}
use Rattle.sector_device.specs.Timeline.{LeavesOnly, IsPresent, weakened, joined, passes_joined}
use Rattle.sector_device.specs.Device.{DeviceState, Image, AgreesBeside, HasFailed, IsLeft, IsSynced, IsBehindRoots, KeepsHistory, KeepsSize, timeline}
use Rattle.sector_device.specs.Page.{IsAlone, IsOutside}
use Rattle.page_roots.specs.declared.format.Format.TheVariants.{Three}
use Rattle.page_nodes.specs.declared.cell.NodeKind.TheVariants.{Leaf}
use Rattle.page_nodes.specs.Node.{IsNode}
use Rattle.page_tree.proofs.Represented.{leaf_is_tree}
use Rattle.journal.specs.Journals.{HasJournal, region_in}
use Rattle.cow_pages.specs.declared.open.OpenFault.TheVariants.{NotADatabase}
use Rattle.cow_pages.specs.Image.{Means, one_page, is_size, first_fault}
use Rattle.cow_pages.specs.Formatting.{IsUnmarked, IsBlank, IsNoneOrFirst as IsNoneOrFirstPage}
use Rattle.kv_store.proofs.Formatted.{only_first}
use Rattle.store.specs.Records.{Record}
use Rattle.journal_store.specs.Clearing.{MayBeCleared, ClearsSome, IsCleared}
use Rattle.journal_store.specs.Formatting.{first_contents, HasFirst, IsNoneOrFirst, HasNoParts, GoesOn, WritesStore, IsMade}
use Rattle.journal_store.specs.Meaning.{journal_start, journal_room}
use Rattle.journal_store.proofs.Checkpoints.{passes_leaves}
use Rattle.journal_store.proofs.Clearing.{blank_journal, no_parts_blank}
use Rattle.journal_store.proofs.Records.{both}

-- no root sector has the magic of a root
none_there : (sectors : ℕ) (image : Image) → is_size sectors ≡ true → IsUnmarked image → first_fault sectors image ≡ Some NotADatabase
none_there sectors image size unmarked = rw size (rw (unmarked 0 (omega arith)) (rw (unmarked 1 (omega arith)) refl))

-- the sectors are cleared, or some of them
module _ (entry : Record) (d e : DeviceState) (size : KeepsSize d e) (clears : ClearsSome d e) where
  pub still_blank : IsBlank d → IsBlank e
  still_blank blank s lt c left = elim (clears.left s c left) [
    | inl was ↦ blank s lt c was
    | inr behind ↦ absurd (omega (arith, behind.0.0, lt))
  ]

  unmarked : 2 ≤ d.sectors → IsBlank d → (image : Image) → MayBeCleared d image → IsUnmarked image
  unmarked room blank image may s lt = elim (may s (omega (arith, lt, room))) [
    | inl was ↦ blank s lt (image s) was
    | inr behind ↦ absurd (omega (arith, behind.0.0, lt))
  ]

  pub none_while : is_size d.sectors ≡ true → 2 ≤ d.sectors → IsBlank d → LeavesOnly (IsNoneOrFirst d.sectors entry) (timeline d) (timeline e)
  none_while is room blank = weakened (MayBeCleared d) (IsNoneOrFirst d.sectors entry) (timeline d) (timeline e) (λ image may. inl (none_there d.sectors image is (unmarked room blank image may))) clears.any_moment

  pub alone_beyond : (s : ℕ) → 8 ≤ s → IsAlone d e s
  alone_beyond s past = record {
    content = ⊎_elim (λ same. same) (λ behind. absurd (omega (arith, behind.0.1, past))) (clears.content s);
    left = λ c left. ⊎_elim (λ was. was) (λ behind. absurd (omega (arith, behind.0.1, past))) (clears.left s c left);
  }

  pub goes_on_clearing : GoesOn d e
  goes_on_clearing = record { later = clears.any_moment.later; past = clears.any_moment.past; now = λ x left. tt; before = λ a x le stop. inr tt }

pub goes_on_after : (d e : DeviceState) → d.faithful → KeepsHistory d e → GoesOn d e
goes_on_after d e faithful history =
    record { later = (history.beside faithful).any_moment.later; past = (history.beside faithful).any_moment.past; now = λ x left. tt; before = λ a x le stop. inr tt }

pub goes_on_joined : (d e f : DeviceState) → GoesOn d e → GoesOn e f → GoesOn d f
goes_on_joined d e f first second = passes_joined (λ (image : Image). Unit {0}) (λ (image : Image). Unit {0}) (timeline d) (timeline e) (timeline f) (λ image is. tt) first second

-- an image of the first page, and of a journal without records, has the record of the page's leaf
has_first : (pages : ℕ) (entry : Record) (page : List ℕ) → IsNode Leaf [] (entry ∷ []) page → (image : Image) → Means pages Three 1 (one_page page) image → HasJournal journal_start journal_room 1 [] image → HasFirst pages entry image
has_first pages entry page node image means journal = (
  record {
    root = 1;
    base = first_contents entry;
    under = record {
      format = Three;
      array = one_page page;
      means = means;
      kind = refl;
      spelled = refl;
      represents = leaf_is_tree (one_page page) (entry ∷ []) page refl (only_first page) node (tt, tt);
    };
    second = refl;
    es = [];
    journal = journal;
    batches = [];
    spelled = tt;
    is = refl;
  },
  refl,
)

-- sectors without a part of a record are a journal without records
journal_of : (image : Image) → HasNoParts image → HasJournal journal_start journal_room 1 [] image
journal_of image none = blank_journal (region_in journal_start journal_room image) (no_parts_blank image none) 1

none_or_first : (sectors : ℕ) (entry : Record) (page : List ℕ) → IsNode Leaf [] (entry ∷ []) page → (image : Image) → IsNoneOrFirstPage sectors Three page image × HasNoParts image → IsNoneOrFirst sectors entry image
none_or_first sectors entry page node image is = elim is.0 [
  | inl none ↦ inl none
  | inr means ↦ inr (has_first (sectors / 8) entry page node image means (journal_of image is.1), is.1)
]

-- the pages are written behind sectors that are cleared
module _ (entry : Record) (page : List ℕ) (node : IsNode Leaf [] (entry ∷ []) page) (d e f : DeviceState) (size : KeepsSize d e) (clears : d.faithful → ClearsSome d e) (room : 8 ≤ d.sectors) (is_sized : is_size d.sectors ≡ true)
    (cleared : d.faithful → IsCleared e) (beside : (s : ℕ) → IsBehindRoots s → e.beside s) (present : e.faithful → IsPresent (timeline e)) (history : KeepsHistory e f)
    (moments : e.faithful → IsBlank e → LeavesOnly (IsNoneOrFirstPage e.sectors Three page) (timeline e) (timeline f)) (others : e.faithful → (s : ℕ) → 2 ≤ s → IsOutside 8 16 s → IsAlone e f s) where
  agrees_none : d.faithful → (image : Image) → AgreesBeside e image → HasNoParts image
  agrees_none faithful image agrees s behind =
      let within : s < e.sectors = omega (arith, behind.1, room, size.sectors) in
      (cleared faithful).synced s within (image s) (agrees s within (beside s behind)) ∙ (cleared faithful).cleared s behind

  no_parts_while : d.faithful → LeavesOnly HasNoParts (timeline e) (timeline f)
  no_parts_while faithful =
      weakened (AgreesBeside e) HasNoParts (timeline e) (timeline f) (agrees_none faithful)
      (passes_leaves (AgreesBeside e) (timeline e) (timeline f) (present (size.faithful faithful)) (λ image left s inside is. left s inside) (history.beside (size.faithful faithful)).any_moment)

  while_writing : d.faithful → IsBlank d → LeavesOnly (IsNoneOrFirst d.sectors entry) (timeline e) (timeline f)
  while_writing faithful blank =
      weakened _ (IsNoneOrFirst d.sectors entry) (timeline e) (timeline f) (none_or_first d.sectors entry page node)
      (both _ _ (timeline e) (timeline f)
      (subst (λ (n : ℕ). LeavesOnly (IsNoneOrFirstPage n Three page) (timeline e) (timeline f)) size.sectors (moments (size.faithful faithful) (still_blank entry d e size (clears faithful) blank)))
      (no_parts_while faithful))

  pub written : WritesStore entry d f
  written = record {
    size = record {
      sectors = history.sectors ∙ size.sectors;
      faithful = λ is. history.faithful (size.faithful is);
      was_faithful = λ is. size.was_faithful (history.was_faithful is);
      failures = omega (arith, size.failures, history.failures);
      same_beside = λ s. (λ is. (history.same_beside s).0 ((size.same_beside s).0 is), λ is. (size.same_beside s).1 ((history.same_beside s).1 is));
    };
    time = λ faithful. goes_on_joined d e f (goes_on_clearing entry d e size (clears faithful)) (goes_on_after e f (size.faithful faithful) history);
    any_moment = λ faithful blank. joined (IsNoneOrFirst d.sectors entry) (timeline d) (timeline e) (timeline f)
        (none_while entry d e size (clears faithful) is_sized (omega (arith, room)) blank) (while_writing faithful blank);
    others = λ faithful s past outside.
        let first = alone_beyond entry d e size (clears faithful) s past in
        let second = others (size.faithful faithful) s (omega (arith, past)) outside in
        record { content = second.content ∙ first.content; left = λ c left. first.left c (second.left c left) };
  }

  pub made : (d.faithful → (image : Image) → IsLeft f image → Means (e.sectors / 8) Three 1 (one_page page) image) → (d.faithful → IsSynced f) → d.faithful → IsMade entry d f
  made means synced faithful = record {
    left = λ image left. (
      has_first (d.sectors / 8) entry page node image (subst (λ (n : ℕ). Means (n / 8) Three 1 (one_page page) image) size.sectors (means faithful image left)) (journal_of image ((no_parts_while faithful).now image left)),
      (no_parts_while faithful).now image left,
    );
    synced = synced faithful;
  }

-- a failure that came later
pub failed_later : (d e f : DeviceState) → d.failures ≤ e.failures → e.failures ≤ f.failures → HasFailed e f → HasFailed d f
failed_later d e f first second failed = elim failed [
  | inl rose ↦ inl (omega (arith, first, rose))
  | inr most ↦ elim (cases_lt d.failures e.failures) [
    | inl lt ↦ inl (omega (arith, lt, second))
    | inr le ↦ inr (omega (arith, le, first, most))
  ]
]

-- the sectors were not cleared
pub not_cleared : (entry : Record) (d e : DeviceState) → KeepsSize d e → (d.faithful → ClearsSome d e) → 8 ≤ d.sectors → is_size d.sectors ≡ true → WritesStore entry d e
not_cleared entry d e size clears room is_sized = record {
  size = size;
  time = λ faithful. goes_on_clearing entry d e size (clears faithful);
  any_moment = λ faithful blank. none_while entry d e size (clears faithful) is_sized (omega (arith, room)) blank;
  others = λ faithful s past outside. alone_beyond entry d e size (clears faithful) s past;
}
