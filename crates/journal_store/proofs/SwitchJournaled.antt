-- A store with a journal that was opened on a device.
use Rattle.std.proofs.Common.{max, ◌≡◌, ◌<◌, ◌+◌, ◌/◌, inl, inr, ℕ, Bool, false, List, refl, sym, subst, ◌∙◌, arith}
use Rattle.std.proofs.Math.Path.{fun_ext}
use Rattle.std.proofs.lemmas.Bool.{cases_lt}
use Rattle.sector_device.specs.Timeline.{IsPresent}
use Rattle.sector_device.specs.Device.{DeviceState, Image, IsLeft, timeline}
use Rattle.sector_device.specs.declared.device.Device.{Ghosts}
use Rattle.journal.specs.Chain.{Region, Entry}
use Rattle.journal.specs.Journals.{region_in, HoldsJournal}
use Rattle.journal.proofs.Appending.{outside_is, same_sector}
use Rattle.cow_pages.specs.Cow.{root_of}
use Rattle.store.specs.Store.{Contents, stored}
use Rattle.kv_store.specs.Numbered.{HasContentsUnder}
use Rattle.kv_store.specs.TreeStore.{pages_of}
use Rattle.journal_store.specs.declared.stores.JournalStore.{JournalStore}
use Rattle.journal_store.specs.Images.{IsJournaledUnder}
use Rattle.journal_store.specs.Meaning.{IsNumberOf, journal_start, journal_room}
use Rattle.journal_store.specs.StoreLaws.{held, stored_is, journal_left}
use Rattle.journal_store.specs.Stores.{device_under, base_of, root_number, held_device, IsSoundJournal, journal_state}
use Rattle.journal_store.specs.declared.device_stores.DeviceStore.TheVariants.{Journaled}
use Rattle.journal_store.specs.DeviceImages.{HasContents}
use Rattle.journal_store.specs.DeviceOpening.{IsOpened}
use Rattle.journal_store.specs.TurningOn.{IsOn}
use Rattle.journal_store.proofs.Beginning.{left_under}
use Rattle.journal_store.proofs.Kept.{kept, stays, pages_are}

-- images that agree on the sectors of the journal
pub region_same : (a b : Image) → ((q : ℕ) → q < journal_room → b (journal_start + q) ≡ a (journal_start + q)) → region_in journal_start journal_room a ≡ region_in journal_start journal_room b
region_same a b agree =
    let same : (q : ℕ) → region_in journal_start journal_room a q ≡ region_in journal_start journal_room b q
    = λ q. elim (cases_lt q journal_room) [
      | inr past ↦ outside_is journal_start journal_room a q past ∙ sym (outside_is journal_start journal_room b q past)
      | inl lt ↦ sym (same_sector journal_start journal_room b a q lt (agree q lt))
    ] in
    fun_ext same

-- what a stop leaves of the sectors of a journal that it leaves as it is
region_left : (root top : ℕ) (es : List Entry) (d : DeviceState) → HoldsJournal journal_start journal_room root top es d → (image : Image) → IsLeft d image → region_in journal_start journal_room d.content ≡ region_in journal_start journal_room image
region_left root top es d holds image left = region_same d.content image
    (λ q lt. holds.fixed q lt (image (journal_start + q)) (left (journal_start + q) (omega (arith, lt, holds.inside))))

-- an image of so many pages has the contents of a store, under its number and behind its root
abbrev pub HasStored : {D : Type 0} {g : Ghosts D} → JournalStore D g → ℕ → Image → Type 0
HasStored s pages image = (is : IsJournaledUnder pages (journal_state s).number (stored (journal_state s)) image) × (is.has.root ≡ root_number s)

-- so has each that a stop may leave
pub left_stored : {D : Type 0} {g : Ghosts D} (s : JournalStore D g) → IsSoundJournal s → s.store.has_failed ≡ false → (image : Image) → IsLeft (device_under s) image → HasStored s (root_of (pages_of s.store)).pages image
left_stored s sound works image left =
    let p = pages_of s.store in
    let records = sound.works works in (
      record {
        has = record {
          root = root_number s;
          base = base_of s;
          under = subst (λ (journal : Bool). HasContentsUnder journal (root_of p).pages (root_number s) (base_of s) image) s.journaled (left_under (base_of s) p (held s sound works) image left);
          second = records.second;
          es = records.es;
          journal = journal_left (root_number s) s.top records.es (device_under s) records.holds image left;
          batches = records.batches;
          spelled = records.spelled;
          is = stored_is s sound works;
        };
        number_is = subst (λ (region : Region). IsNumberOf (max (root_number s) s.top) (root_number s) region) (region_left (root_number s) s.top records.es (device_under s) records.holds image left) records.number_is;
      },
      refl,
    )

module _ {D : Type 0} {g : Ghosts D} (content_left : (device : D) (s : ℕ) → (g.state device).faithful → s < (g.state device).sectors → (g.state device).left s ((g.state device).content s))
    (d : DeviceState) (s : JournalStore D g) (opened : IsOpened d (Journaled s)) (faithful : d.faithful) where
  pub sound_then : IsSoundJournal s
  sound_then = (opened.holds faithful).sound

  pub left_then : (image : Image) → IsLeft (device_under s) image → HasStored s (d.sectors / 8) image
  left_then image left = subst (λ (n : ℕ). HasStored s n image) (pages_are d (pages_of s.store) opened.history.sectors) (left_stored s sound_then opened.has_not_failed image left)

  pub had_then : HasStored s (d.sectors / 8) d.content
  had_then = subst (λ (image : Image). HasStored s (d.sectors / 8) image) (fun_ext (opened.content faithful).content)
      (left_then (device_under s).content (λ q inside. content_left (held_device s) q (opened.history.faithful faithful) inside))

  pub has_then : (image : Image) → HasStored s (d.sectors / 8) image → HasContents (d.sectors / 8) (stored (journal_state s)) image
  has_then image is = record { number = (journal_state s).number; is = inr is.0 }

  -- there was a journal
  pub was_on : IsPresent (timeline (device_under s)) → IsOn (journal_state s).number d (device_under s)
  was_on present =
      let c : Contents = stored (journal_state s) in
      record {
        contents = c;
        keeps = kept c d (device_under s) (device_under s) opened.history.sectors (has_then d.content had_then) (opened.content faithful)
            (stays c (device_under s) present (subst (λ (n : ℕ). (image : Image) → IsLeft (device_under s) image → HasContents (n / 8) c image) (sym opened.history.sectors) (λ image left. has_then image (left_then image left))));
        left = λ image left. (left_then image left).0;
        how = inl (record { had = had_then.0; content = opened.content faithful });
      }
