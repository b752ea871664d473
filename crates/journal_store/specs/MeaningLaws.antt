-- Laws of images with a journal that the ghost members of a store cite: an image has one contents at most.
use Rattle.std.proofs.Common.{◌≡◌, ℕ, true, List, [], ◌∷◌, refl, sym, ap, subst, ◌∙◌}
use Rattle.sector_device.specs.Device.{Image}
use Rattle.journal.specs.Chain.{Entry}
use Rattle.journal.proofs.Chaining.{one_chain}
use Rattle.journal.proofs.Rising.{one_batch_read}
use Rattle.journal.specs.Journals.{region_in, HasJournal}
use Rattle.cow_pages.proofs.Meaning.{one_meaning}
use Rattle.store.specs.Records.{Changes}
use Rattle.store.specs.Store.{Contents}
use Rattle.kv_store.specs.Contents.{HasContentsWith}
use Rattle.kv_store.specs.ContentLaws.{same_contents_with}
use Rattle.kv_store.specs.Numbered.{HasContentsUnder}
use Rattle.journal_store.specs.Meaning.{HasJournaledContents, SpellBatches, with_batches, joined_parts, journal_start, journal_room}

-- records spell one list of batches at most
one_list : (es : List Entry) (bs cs : List Changes) → SpellBatches es bs → SpellBatches es cs → bs ≡ cs
one_list [] [] [] one other = refl
one_list [] [] (c ∷ cs) one other = absurd other
one_list [] (b ∷ bs) cs one other = absurd one
one_list (e ∷ es) [] cs one other = absurd one
one_list (e ∷ es) (b ∷ bs) [] one other = absurd other
one_list (e ∷ es) (b ∷ bs) (c ∷ cs) one other =
    ap (λ (x : Changes). x ∷ bs) (one_batch_read (joined_parts e.parts) b c one.0 other.0) ∙ ap (λ (xs : List Changes). c ∷ xs) (one_list es bs cs one.1 other.1)

-- the contents of the pages, without the number
pub under_has : (pages root : ℕ) (base : Contents) (image : Image) → HasContentsUnder true pages root base image → HasContentsWith true pages base image
under_has pages root base image under = record { format = under.format; number = root; array = under.array; means = under.means; kind = under.kind; spelled = under.spelled; represents = under.represents }

pub one_contents : (image : Image) (pages others : ℕ) (contents other : Contents) → HasJournaledContents pages contents image → HasJournaledContents others other image → contents ≡ other
one_contents image pages others contents other has also =
    let roots : has.root ≡ also.root = (one_meaning pages others has.under.format also.under.format has.root also.root has.under.array also.under.array image has.under.means also.under.means).1 in
    let bases : has.base ≡ also.base = same_contents_with true image pages others has.base also.base (under_has pages has.root has.base image has.under) (under_has others also.root also.base image also.under) in
    let journal : HasJournal journal_start journal_room also.root has.es image = subst (λ (n : ℕ). HasJournal journal_start journal_room n has.es image) roots has.journal in
    let records : has.es ≡ also.es = one_chain (region_in journal_start journal_room image) also.root 0 0 journal_room has.es also.es journal.chain also.journal.chain in
    let batches : has.batches ≡ also.batches = one_list also.es has.batches also.batches (subst (λ (es : List Entry). SpellBatches es has.batches) records has.spelled) also.spelled in
    has.is ∙ ap (λ (bs : List Changes). with_batches bs has.base) batches ∙ ap (λ (c : Contents). with_batches also.batches c) bases ∙ sym also.is
