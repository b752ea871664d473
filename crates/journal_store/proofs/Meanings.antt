-- Images with a journal: what a record or a checkpoint leaves.
use Rattle.std.proofs.Common.{◌≡◌, ◌⊎◌, ◌+◌, ◌*◌, ◌/◌, ◌%◌, ◌++◌, inl, inr, ℕ, zero, suc, true, List, [], ◌∷◌, length, take, drop, refl, sym, ap, ◌∙◌, arith}
use Rattle.std.proofs.lemmas.List.{take_all}
use Rattle.std.proofs.Math.Seq.{take-add}
use Rattle.storage_sizes.specs.declared.record_format.RecordFormat.TheVariants.{V2}
use Rattle.sector_device.specs.Device.{Image}
use Rattle.journal.specs.Chain.{Entry}
use Rattle.journal.proofs.Journals.{none_of_later}
use Rattle.journal.specs.Changes.{Spells}
use Rattle.journal.specs.Records.{parts_of}
use Rattle.journal.specs.Journals.{region_in, HasJournal, HasEither}
use Rattle.store.specs.Contents.{changed_by_batch}
use Rattle.store.specs.Records.{Records, Changes, applied}
use Rattle.store.specs.Store.{Contents}
use Rattle.transactions.specs.Views.{applied_all}
use Rattle.kv_store.specs.Numbered.{HasContentsUnder}
use Rattle.journal_store.specs.Meaning.{HasJournaledContents, SpellBatches, with_batches, joined_parts, journal_start, journal_room}

-- one batch more
pub spell_more : (es : List Entry) (bs : List Changes) (new : Entry) (b : Changes) → SpellBatches es bs → Spells (joined_parts new.parts) b → SpellBatches (es ++ new ∷ []) (bs ++ b ∷ [])
spell_more [] [] new b all one = (one, tt)
spell_more [] (c ∷ cs) new b all one = absurd all
spell_more (e ∷ es) [] new b all one = absurd all
spell_more (e ∷ es) (c ∷ cs) new b all one = (all.0, spell_more es cs new b all.1 one)

pub applied_more : (bs : List Changes) (b : Changes) (records : Records) → applied_all (bs ++ b ∷ []) records ≡ applied b (applied_all bs records)
applied_more [] b records = refl
applied_more (c ∷ cs) b records = applied_more cs b (applied c records)

pub with_more : (bs : List Changes) (b : Changes) (base : Contents) → changed_by_batch b (with_batches bs base) ≡ with_batches (bs ++ b ∷ []) base
with_more bs b base = ap (λ (records : Records). let c : Contents = record { record_format = base.record_format; records = records } in c) (sym (applied_more bs b base.records))

pub record_leaves : (image : Image) (pages root : ℕ) (base : Contents) (es : List Entry) (batches : List Changes) (new : Entry) (batch : Changes)
    → HasContentsUnder true pages root base image → base.record_format ≡ V2 → SpellBatches es batches → Spells (joined_parts new.parts) batch
    → HasEither journal_start journal_room root es new image
    → HasJournaledContents pages (with_batches batches base) image ⊎ HasJournaledContents pages (changed_by_batch batch (with_batches batches base)) image
record_leaves image pages root base es batches new batch under second spelled one either = elim either [
  | inl journal ↦ inl (record { root = root; base = base; under = under; second = second; es = es; journal = journal; batches = batches; spelled = spelled; is = refl })
  | inr journal ↦ inr (record {
    root = root;
    base = base;
    under = under;
    second = second;
    es = es ++ new ∷ [];
    journal = journal;
    batches = batches ++ batch ∷ [];
    spelled = spell_more es batches new batch spelled one;
    is = with_more batches batch base;
  })
]

pub checkpoint_leaves : (image : Image) (pages root : ℕ) (base after : Contents) (es : List Entry) (batches : List Changes)
    → base.record_format ≡ V2 → after.record_format ≡ V2 → SpellBatches es batches → HasJournal journal_start journal_room root es image
    → HasContentsUnder true pages root base image ⊎ HasContentsUnder true pages (root + 1) after image
    → HasJournaledContents pages (with_batches batches base) image ⊎ HasJournaledContents pages after image
checkpoint_leaves image pages root base after es batches second second_after spelled journal either = elim either [
  | inl under ↦ inl (record { root = root; base = base; under = under; second = second; es = es; journal = journal; batches = batches; spelled = spelled; is = refl })
  | inr under ↦ inr (record {
    root = root + 1;
    base = after;
    under = under;
    second = second_after;
    es = [];
    journal = none_of_later (region_in journal_start journal_room image) root (root + 1) journal_room es journal (omega arith);
    batches = [];
    spelled = tt;
    is = refl;
  })
]

-- the parts of bytes are these bytes
joined_take : (count : ℕ) (bytes : List ℕ) → joined_parts (parts_of count bytes) ≡ take (488 * count) bytes
joined_take zero bytes = refl
joined_take (suc count) bytes =
    let more : 488 + 488 * count ≡ 488 * suc count = omega arith in
    ap (λ (xs : List ℕ). take 488 bytes ++ xs) (joined_take count (drop 488 bytes)) ∙ (sym (take-add 488 (488 * count) bytes) ∙ ap (λ (n : ℕ). take n bytes) more)

pub joined_is : (bytes : List ℕ) → length bytes % 488 ≡ 0 → joined_parts (parts_of (length bytes / 488) bytes) ≡ bytes
joined_is bytes whole =
    let all : 488 * (length bytes / 488) ≡ length bytes = omega (arith, whole) in
    joined_take (length bytes / 488) bytes ∙ (ap (λ (n : ℕ). take n bytes) all ∙ take_all (length bytes) bytes (omega arith))
