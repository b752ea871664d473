-- What appending leaves of a journal on a device.
use Rattle.std.proofs.Common.{Result, Ok, Err, OnOk, ◌≡◌, ⊎_elim, inl, inr, ◌<◌, ◌≤◌, ◌+◌, ◌++◌, ◌∷◌, [], ℕ, List, length, get_or, ◌∙◌, arith, refl, ap, sym, subst}
use Rattle.std.proofs.lemmas.Bool.{cases_lt, lt-ltb, le-ltb}
use Rattle.sector_device.specs.Timeline.{LeavesOnly, weakened}
use Rattle.sector_device.specs.Device.{DeviceState, Image, IsSynced, timeline}
use Rattle.journal.specs.Chain.{Entry, Blank, HoldsParts, end_of}
use Rattle.journal.specs.Journal.{NumbersUpTo, MayHoldParts}
use Rattle.journal.proofs.Chaining.{numbered}
use Rattle.journal.proofs.Journals.{before_or_after, journal_with}
use Rattle.journal.specs.Sectors.{sector_at}
use Rattle.sector_device.specs.Sectors.{MayHoldSectors, WritesSectors, HoldsSectors}
use Rattle.journal.specs.Journals.{region_in, HasJournal, HasEither, IsAppended, CanAppend}

module _ (start room : ℕ) where
  pub inside_is : (image : Image) (q : ℕ) → q < room → region_in start room image q ≡ sector_at room (image (start + q))
  inside_is image q lt = rw (lt-ltb q room lt) refl

  pub outside_is : (image : Image) (q : ℕ) → room ≤ q → region_in start room image q ≡ Blank
  outside_is image q le = rw (le-ltb q room le) refl

  -- images that agree in a sector of the journal say the same there
  pub same_sector : (image other : Image) (q : ℕ) → q < room → image (start + q) ≡ other (start + q) → region_in start room image q ≡ region_in start room other q
  same_sector image other q lt same = inside_is image q lt ∙ ap (λ (bytes : List ℕ). sector_at room bytes) same ∙ sym (inside_is other q lt)

module _ (start room root top : ℕ) (es : List Entry) (new : Entry) (first : ℕ) (sectors : List (List ℕ)) (d : DeviceState) (can : CanAppend start room root top es new first sectors d) where
  -- what a stop leaves while the sectors of a record are written
  holds_parts : (image : Image) → MayHoldSectors first sectors d image → MayHoldParts (region_in start room d.content) root (end_of 0 es) new (region_in start room image)
  holds_parts image may q = elim (cases_lt q room) [
    | inr past ↦ inl (outside_is start room image q past ∙ sym (outside_is start room d.content q past))
    | inl lt ↦ ⊎_elim
        (λ left. inl (same_sector start room image d.content q lt (can.holds.fixed q lt (image (start + q)) left)))
        (λ written. inr (
          record { index = written.index; inside = omega (arith, written.within, can.count); place = omega (arith, written.place, can.place) },
          inside_is start room image q lt ∙ ap (λ (bytes : List ℕ). sector_at room bytes) written.is ∙ can.spelled written.index written.within,
        ))
        (may (start + q) (omega (arith, lt, can.holds.inside)))
  ]

  pub leaves_either : (image : Image) → MayHoldSectors first sectors d image → HasEither start room root es new image
  leaves_either image may =
      before_or_after (region_in start room d.content) (region_in start room image) root room top es new can.holds.journal can.holds.few can.follows (holds_parts image may)

  -- all sectors of the record are there
  all_parts : (image : Image) → ((i : ℕ) → i < length sectors → image (first + i) ≡ get_or sectors i []) → HoldsParts (region_in start room image) root (end_of 0 es) new
  all_parts image all i lt =
      let here : start + (end_of 0 es + i) ≡ first + i = omega (arith, can.place) in
      let inside : i < length sectors = omega (arith, lt, can.count) in
      inside_is start room image (end_of 0 es + i) (omega (arith, lt, can.follows.fits))
      ∙ ap (λ (s : ℕ). sector_at room (image s)) here ∙ ap (λ (bytes : List ℕ). sector_at room bytes) (all i inside) ∙ can.spelled i inside

  leaves_after : (image : Image) → MayHoldSectors first sectors d image → ((i : ℕ) → i < length sectors → image (first + i) ≡ get_or sectors i [])
      → HasJournal start room root (es ++ new ∷ []) image
  leaves_after image may all =
      journal_with (region_in start room d.content) (region_in start room image) root room top es new can.holds.journal can.holds.few can.follows (holds_parts image may) (all_parts image all)

  few_after : (image : Image) → MayHoldSectors first sectors d image → NumbersUpTo new.number (region_in start room image)
  few_after image may = numbered (region_in start room d.content) (region_in start room image) root (end_of 0 es) top new can.holds.few can.follows.above (holds_parts image may)

  pub leaves_written : (e : DeviceState) → LeavesOnly (MayHoldSectors first sectors d) (timeline d) (timeline e) → LeavesOnly (HasEither start room root es new) (timeline d) (timeline e)
  leaves_written e leaves = weakened (MayHoldSectors first sectors d) (HasEither start room root es new) (timeline d) (timeline e) leaves_either leaves

  -- after the sync
  pub appended_now : (e : DeviceState) → WritesSectors first sectors d e → HoldsSectors first sectors e.content → IsSynced e
      → e.sectors ≡ d.sectors → ((s : ℕ) → s < d.sectors → d.left s (d.content s)) → first + length sectors ≤ d.sectors → IsAppended start room root es new e
  appended_now e writes all synced same content_left inside =
      let may : MayHoldSectors first sectors d e.content
      = λ s lt. ⊎_elim
      (λ old. inl (subst (λ (bytes : List ℕ). d.left s bytes) (sym old) (content_left s lt)))
      (λ part. inr part)
      (writes.content s) in
      record {
        left = λ image left. leaves_after image
            (λ s lt. writes.left s (image s) (left s (omega (arith, lt, same))))
            (λ i lt. synced (first + i) (omega (arith, lt, same, inside)) (image (first + i)) (left (first + i) (omega (arith, lt, same, inside))) ∙ all i lt);
        holds = record {
          inside = omega (arith, can.holds.inside, same);
          fixed = λ q lt. synced (start + q) (omega (arith, lt, can.holds.inside, same));
          journal = leaves_after e.content may all;
          few = few_after e.content may;
        };
      }

-- what is so where a call succeeded
pub on_ok_both : {T E : Type 0} {P Q R : Type 0} (r : Result T E) → OnOk r P → OnOk r Q → (P → Q → R) → OnOk r R
on_ok_both (Ok x) one two so = so one two
on_ok_both (Err e) one two so = tt
