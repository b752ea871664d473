-- A store whose one record is that of an administrator stands for a new database, with a journal or without.
use Rattle.std.proofs.Common.{◌≡◌, ◌⊎◌, ◌/◌, ℕ, Bool, true, false, Some, Result, Ok, Err, inl, inr, refl, sym, subst, arith}
use Rattle.sector_device.specs.Timeline.{weakened}
use Rattle.sector_device.specs.Device.{DeviceState, Image, timeline}
use Rattle.sector_device.specs.declared.device.Device.{Ghosts}
use Rattle.cow_pages.specs.Image.{first_fault, is_size}
use Rattle.cow_pages.specs.declared.open.OpenFault.{OpenFault}
use Rattle.cow_pages.specs.declared.open.OpenFault.TheVariants.{WrongSize, NotADatabase, NewerFormat, Damaged, Device, Memory}
use Rattle.storage_sizes.specs.CurrentRecordFormat.{current}
use Rattle.store.specs.Memory.{admin_record, new_records}
use Rattle.kv_store.specs.Numbered.{HasContentsUnder}
use Rattle.kv_store.specs.Formatting.{HasFirst, WritesStore, IsMade as IsStoreMade}
use Rattle.journal_store.specs.Formatting.{first_contents, HasFirst as HasFirstJournaled, HasNoParts, WritesStore as WritesJournaled, IsMade as IsJournaledMade}
use Rattle.journal_store.specs.Images.{IsJournaledUnder}
use Rattle.journal_store.proofs.Clearing.{no_numbers, no_parts_blank}
use Rattle.abstract_database.specs.Lists.{TheName}
use Rattle.abstract_database.specs.Database.{new_database}
use Rattle.stored_database.specs.Records.{StandsFor}
use Rattle.databases.specs.Making.{IsNew, IsNoneOrNew, WritesNew, IsMade, Makes, FormatsOfKind}

module _ (admin : TheName) (stands : StandsFor (new_records admin) (new_database admin)) where
  -- ---- without a journal

  has_new : (sectors : ℕ) (image : Image) → HasFirst (sectors / 8) current (admin_record admin) image → IsNew false sectors admin image
  unfolding current
  has_new sectors image first =
      let plain = first.0 in
      let under : HasContentsUnder false (sectors / 8) plain.number (record { record_format = current; records = new_records admin }) image
      = record { format = plain.format; array = plain.array; means = plain.means; kind = plain.kind; spelled = plain.spelled; represents = plain.represents } in
      record {
        means = record { contents = record { record_format = current; records = new_records admin }; has = record { number = plain.number; is = inl under }; stands = stands };
        first = first.1;
        kind = subst (λ (n : ℕ). HasContentsUnder false (sectors / 8) n (record { record_format = current; records = new_records admin }) image) first.1 under;
      }

  none_or_new : (sectors : ℕ) (image : Image) → (first_fault sectors image ≡ Some NotADatabase) ⊎ HasFirst (sectors / 8) current (admin_record admin) image → IsNoneOrNew false sectors admin image
  none_or_new sectors image is = elim is [
    | inl none ↦ inl none
    | inr first ↦ inr (has_new sectors image first)
  ]

  writes_new : (old new : DeviceState) → is_size old.sectors ≡ true → WritesStore current (admin_record admin) old new → WritesNew false admin old new
  writes_new old new size writes = record {
    size = size;
    keeps = writes.history;
    any_moment = λ faithful blank. weakened _ _ (timeline old) (timeline new) (none_or_new old.sectors) (writes.any_moment faithful blank);
  }

  made_new : (old new : DeviceState) → IsStoreMade current (admin_record admin) old new → IsMade false admin old new
  made_new old new made = record { left = λ image left. has_new old.sectors image (made.left image left); synced = made.synced }

  -- ---- with a journal

  has_journaled : (sectors : ℕ) (image : Image) → HasFirstJournaled (sectors / 8) (admin_record admin) image × HasNoParts image → IsNew true sectors admin image
  has_journaled sectors image is =
      let first = is.0 in
      let under : IsJournaledUnder (sectors / 8) 1 (first_contents (admin_record admin)) image = record {
        has = first.0;
        number_is = record {
          not_below = omega (arith, first.1);
          up_to = λ q part held. omega (arith, no_numbers _ (no_parts_blank image is.1) q part held);
          reached = inl (sym first.1);
        };
      } in
      record {
        means = record { contents = first_contents (admin_record admin); has = record { number = 1; is = inr under }; stands = stands };
        first = refl;
        kind = under;
      }

  none_or_journaled : (sectors : ℕ) (image : Image) → (first_fault sectors image ≡ Some NotADatabase) ⊎ (HasFirstJournaled (sectors / 8) (admin_record admin) image × HasNoParts image)
      → IsNoneOrNew true sectors admin image
  none_or_journaled sectors image is = elim is [
    | inl none ↦ inl none
    | inr first ↦ inr (has_journaled sectors image first)
  ]

  writes_journaled : (old new : DeviceState) → is_size old.sectors ≡ true → WritesJournaled (admin_record admin) old new → WritesNew true admin old new
  writes_journaled old new size writes = record {
    size = size;
    keeps = (writes.size, writes.time);
    any_moment = λ faithful blank. weakened _ _ (timeline old) (timeline new) (none_or_journaled old.sectors) (writes.any_moment faithful blank);
  }

  made_journaled : (old new : DeviceState) → IsJournaledMade (admin_record admin) old new → IsMade true admin old new
  made_journaled old new made = record { left = λ image left. has_journaled old.sectors image (made.left image left); synced = made.synced }

  -- ---- either

  module _ {D : Type 0} (g : Ghosts D) (old new : D) (size : is_size (g.state old).sectors ≡ true) where
    made : (journal : Bool) → FormatsOfKind g journal (admin_record admin) (Ok tt) old new → Makes g.state journal admin (Ok tt) old new
    made true is = (writes_journaled (g.state old) (g.state new) size is.0, λ faithful. made_journaled (g.state old) (g.state new) (is.1 faithful))
    made false is = (writes_new (g.state old) (g.state new) size is.0, λ faithful. made_new (g.state old) (g.state new) (is.1 faithful))

    -- where the device failed, and where memory was refused, which comes first
    fails : (journal : Bool) → FormatsOfKind g journal (admin_record admin) (Err Device) old new → Makes g.state journal admin (Err Device) old new
    fails true is = (writes_journaled (g.state old) (g.state new) size is.0, is.1)
    fails false is = (writes_new (g.state old) (g.state new) size is.0, is.1)

    refused : (journal : Bool) → FormatsOfKind g journal (admin_record admin) (Err Memory) old new → Makes g.state journal admin (Err Memory) old new
    refused true is = (size, is)
    refused false is = (size, is)

    -- no other fault comes
    none_wrong : (journal : Bool) → FormatsOfKind g journal (admin_record admin) (Err WrongSize) old new → Makes g.state journal admin (Err WrongSize) old new
    none_wrong true is = absurd is
    none_wrong false is = absurd is

    none_other : (journal : Bool) → FormatsOfKind g journal (admin_record admin) (Err NotADatabase) old new → Makes g.state journal admin (Err NotADatabase) old new
    none_other true is = absurd is
    none_other false is = absurd is

    none_newer : (journal : Bool) (format : ℕ) → FormatsOfKind g journal (admin_record admin) (Err (NewerFormat format)) old new → Makes g.state journal admin (Err (NewerFormat format)) old new
    none_newer true format is = absurd is
    none_newer false format is = absurd is

    none_damaged : (journal : Bool) → FormatsOfKind g journal (admin_record admin) (Err Damaged) old new → Makes g.state journal admin (Err Damaged) old new
    none_damaged true is = absurd is
    none_damaged false is = absurd is

    pub makes : (journal : Bool) (result : Result (Unit {0}) OpenFault) → FormatsOfKind g journal (admin_record admin) result old new → Makes g.state journal admin result old new
    makes journal (Ok x) is = made journal is
    makes journal (Err Device) is = fails journal is
    makes journal (Err Memory) is = refused journal is
    makes journal (Err WrongSize) is = none_wrong journal is
    makes journal (Err NotADatabase) is = none_other journal is
    makes journal (Err (NewerFormat format)) is = none_newer journal format is
    makes journal (Err Damaged) is = none_damaged journal is
