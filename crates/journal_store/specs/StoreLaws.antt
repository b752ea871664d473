-- Laws that the ghost members of a store with a journal cite: what a stop leaves of it.
use Rattle.std.proofs.Common.{◌≡◌, ◌+◌, ◌/◌, inl, inr, ℕ, false, List, Option, Some, refl, sym, ap, subst, ◌∙◌, arith}
use Rattle.std.proofs.Math.Path.{fun_ext}
use Rattle.std.proofs.lemmas.Bool.{cases_lt}
use Rattle.sector_device.specs.Device.{DeviceState, Image, IsLeft}
use Rattle.sector_device.specs.declared.device.Device.{Ghosts}
use Rattle.journal.specs.Chain.{Region, Entry}
use Rattle.journal.specs.Journal.{IsJournal}
use Rattle.journal.specs.Journals.{region_in, HasJournal, HoldsJournal}
use Rattle.journal.proofs.Appending.{outside_is, same_sector}
use Rattle.cow_pages.specs.Cow.{device_below, root_of, durable_array}
use Rattle.cow_pages.proofs.Meaning.{settled_left}
use Rattle.store.specs.Records.{Records, IsOrdered}
use Rattle.store.specs.Store.{Contents, stored}
use Rattle.kv_store.specs.Contents.{HoldsContents}
use Rattle.kv_store.specs.TreeStore.{pages_of}
use Rattle.kv_store.specs.TreeLaws.{keys_rise}
use Rattle.journal_store.specs.declared.stores.JournalStore.{JournalStore}
use Rattle.journal_store.specs.Meaning.{HasJournaledContents, with_batches, journal_start, journal_room}
use Rattle.journal_store.specs.Images.{IsJournaledUnder}
use Rattle.journal_store.specs.ImageLaws.{read_is}
use Rattle.journal_store.specs.Stores.{device_under, base_of, root_number, HoldsRecords, IsSoundJournal, journal_state}

-- what a stop leaves of a journal that it leaves as it is
pub journal_left : (root top : ℕ) (es : List Entry) (d : DeviceState) → HoldsJournal journal_start journal_room root top es d → (image : Image) → IsLeft d image → HasJournal journal_start journal_room root es image
journal_left root top es d holds image left =
    let same : (q : ℕ) → region_in journal_start journal_room image q ≡ region_in journal_start journal_room d.content q
    = λ q. elim (cases_lt q journal_room) [
      | inr past ↦ outside_is journal_start journal_room image q past ∙ sym (outside_is journal_start journal_room d.content q past)
      | inl lt ↦ same_sector journal_start journal_room image d.content q lt (holds.fixed q lt (image (journal_start + q)) (left (journal_start + q) (omega (arith, lt, holds.inside))))
    ] in
    subst (λ (region : Region). IsJournal region root journal_room es) (sym (fun_ext same)) holds.journal

module _ {D : Type 0} {g : Ghosts D} (s : JournalStore D g) (sound : IsSoundJournal s) (works : s.store.has_failed ≡ false) where
  abbrev pub records : HoldsRecords s
  records = sound.works works

  pub held : HoldsContents (base_of s) (pages_of s.store)
  held = sound.pages.works works

  pub ordered : IsOrdered (base_of s).records
  ordered = keys_rise s.store sound.pages

  pub stored_is : stored (journal_state s) ≡ with_batches (sound.works works).batches (base_of s)
  stored_is = ap (λ (es : Records). let c : Contents = record { record_format = (base_of s).record_format; records = es } in c) ((sound.works works).waits (base_of s).records ordered)

  -- each image that a stop may leave
  left_has : (image : Image) → IsLeft (device_under s) image → HasJournaledContents (root_of (pages_of s.store)).pages (with_batches (sound.works works).batches (base_of s)) image
  left_has image left =
      let p = pages_of s.store in
      record {
        root = root_number s;
        base = base_of s;
        under = record {
          format = (root_of p).format;
          array = durable_array p;
          means = settled_left (device_below p) image (root_of p) p.map.durable.items held.is_open.settled left;
          kind = s.journaled;
          spelled = held.spelled;
          represents = held.durable;
        };
        second = (sound.works works).second;
        es = (sound.works works).es;
        journal = journal_left (root_number s) s.top (sound.works works).es (device_under s) (sound.works works).holds image left;
        batches = (sound.works works).batches;
        spelled = (sound.works works).spelled;
        is = refl;
      }

  -- as contents of a device of so many sectors
  pub image_left : (image : Image) → IsLeft (device_under s) image → HasJournaledContents ((device_under s).sectors / 8) (stored (journal_state s)) image
  image_left image left =
      let pages : (root_of (pages_of s.store)).pages ≡ (device_under s).sectors / 8 = omega (arith, (pages_of s.store).sized) in
      subst (λ (n : ℕ). HasJournaledContents n (stored (journal_state s)) image) pages
      (subst (λ (c : Contents). HasJournaledContents (root_of (pages_of s.store)).pages c image) (sym stored_is) (left_has image left))

  -- and the content has them, under the number of the store
  pub content_under : IsLeft (device_under s) (device_under s).content → IsJournaledUnder ((device_under s).sectors / 8) (journal_state s).number (stored (journal_state s)) (device_under s).content
  unfolding left_has
  content_under left =
      let image = (device_under s).content in
      let pages : (root_of (pages_of s.store)).pages ≡ (device_under s).sectors / 8 = omega (arith, (pages_of s.store).sized) in
      subst (λ (n : ℕ). IsJournaledUnder n (journal_state s).number (stored (journal_state s)) image) pages
      (subst (λ (c : Contents). IsJournaledUnder (root_of (pages_of s.store)).pages (journal_state s).number c image) (sym stored_is)
      (record { has = left_has image left; number_is = (sound.works works).number_is }))

  pub settled : (x : Option Contents) → (journal_state s).time.left x → x ≡ Some (stored (journal_state s))
  settled x left =
      read_is left.0 (root_of (pages_of s.store)).pages (with_batches (sound.works works).batches (base_of s)) x (left_has left.0 left.1) left.2 ∙ ap (λ (c : Contents). Some c) (sym stored_is)
