-- Laws of images, with a journal or without, that the ghost members of stores cite: an image has one contents at most.
use Rattle.std.proofs.Common.{◌≡◌, ◌≤◌, ◌<◌, ◌⊎◌, inl, inr, ℕ, zero, suc, Bool, false, Option, Some, None, refl, sym, ap, subst, ◌∙◌, arith}
use Rattle.std.proofs.lemmas.Bool.{cases_lt, false≢true}
use Rattle.sector_device.specs.Device.{Image}
use Rattle.page_roots.specs.Formats.{has_journal}
use Rattle.journal.specs.Chain.{Part, Sector, Blank, Holds, Malformed, Region}
use Rattle.journal.specs.Journals.{region_in}
use Rattle.journal.proofs.Appending.{outside_is}
use Rattle.cow_pages.proofs.Meaning.{one_meaning}
use Rattle.store.specs.Store.{Contents}
use Rattle.kv_store.specs.Contents.{HasContentsWith}
use Rattle.kv_store.specs.ContentLaws.{same_contents_with}
use Rattle.kv_store.specs.Numbered.{HasContentsUnder}
use Rattle.journal_store.specs.Meaning.{HasJournaledContents, IsNumberOf, journal_start, journal_room}
use Rattle.journal_store.specs.MeaningLaws.{one_contents as one_journaled}
use Rattle.journal_store.specs.Images.{HasContents, IsJournaledUnder, IsReadAs}

-- ---- an image with a journal has a number

-- the greatest of a root's number and of those in so many sectors
record IsGreatestIn (number root room : ℕ) (region : Region) : Type 0 where
  pub not_below : root ≤ number
  pub up_to : (q : ℕ) (part : Part) → q < room → region q ≡ Holds part → part.number ≤ number
  pub reached : (number ≡ root) ⊎ ((q : ℕ) × (part : Part) × (region q ≡ Holds part) × (part.number ≡ number))

-- the last sector has no greater number
with_less : (number root room : ℕ) (region : Region) → IsGreatestIn number root room region → ((part : Part) → region room ≡ Holds part → part.number ≤ number) → IsGreatestIn number root (suc room) region
with_less number root room region is last = record {
  not_below = is.not_below;
  up_to = λ q part lt held. elim (cases_lt q room) [
    | inl before ↦ is.up_to q part before held
    | inr at ↦ let here : q ≡ room = omega (arith, lt, at) in last part (subst (λ (p : ℕ). region p ≡ Holds part) here held)
  ];
  reached = is.reached;
}

-- it has a greater one
with_more : (number root room : ℕ) (region : Region) (part : Part) → IsGreatestIn number root room region → region room ≡ Holds part → number < part.number → IsGreatestIn part.number root (suc room) region
with_more number root room region part is held more = record {
  not_below = omega (arith, is.not_below, more);
  up_to = λ q other lt there. elim (cases_lt q room) [
    | inl before ↦ omega (arith, is.up_to q other before there, more)
    | inr at ↦
        let here : q ≡ room = omega (arith, lt, at) in
        let same : Holds other ≡ Holds part = sym (subst (λ (p : ℕ). region p ≡ Holds other) here there) ∙ held in
        one_part other part same
  ];
  reached = inr (room, part, held, refl);
}
  where
    one_part : (other part : Part) → Holds other ≡ Holds part → other.number ≤ part.number
    one_part other part same = let is : other ≡ part = cc in omega (arith, ap (λ (p : Part). p.number) is)

with_sector : (number root room : ℕ) (region : Region) (sector : Sector) → region room ≡ sector → IsGreatestIn number root room region → (n : ℕ) × IsGreatestIn n root (suc room) region
with_sector number root room region Blank says is = (number, with_less number root room region is (λ part held. absurd (let bad : Blank ≡ Holds part = sym says ∙ held in cc)))
with_sector number root room region Malformed says is = (number, with_less number root room region is (λ part held. absurd (let bad : Malformed ≡ Holds part = sym says ∙ held in cc)))
with_sector number root room region (Holds part) says is = elim (cases_lt number part.number) [
  | inl more ↦ (part.number, with_more number root room region part is says more)
  | inr less ↦ (
    number,
    with_less number root room region is
        (λ other held. let same : Holds other ≡ Holds part = sym held ∙ says in one_part other part same less),
  )
]
  where
    one_part : (other part : Part) → Holds other ≡ Holds part → part.number ≤ number → other.number ≤ number
    one_part other part same less = let is : other ≡ part = cc in omega (arith, ap (λ (p : Part). p.number) is, less)

greatest_in : (root : ℕ) (region : Region) (room : ℕ) → (n : ℕ) × IsGreatestIn n root room region
greatest_in root region zero = (root, record { not_below = omega arith; up_to = λ q part lt held. absurd (omega (arith, lt)); reached = inl refl })
greatest_in root region (suc room) = let so_far = greatest_in root region room in with_sector so_far.0 root room region (region room) refl so_far.1

some_number : (root : ℕ) (image : Image) → (n : ℕ) × IsNumberOf n root (region_in journal_start journal_room image)
some_number root image =
    let region : Region = region_in journal_start journal_room image in
    let greatest = greatest_in root region journal_room in (
      greatest.0,
      record {
        not_below = greatest.1.not_below;
        up_to = λ q part held. elim (cases_lt q journal_room) [
          | inl inside ↦ greatest.1.up_to q part inside held
          | inr past ↦ absurd (let bad : Blank ≡ Holds part = sym (outside_is journal_start journal_room image q past) ∙ held in cc)
        ];
        reached = greatest.1.reached;
      },
    )

pub has_journaled : (image : Image) (pages : ℕ) (contents : Contents) → HasJournaledContents pages contents image → HasContents pages contents image
has_journaled image pages contents has = let number = some_number has.root image in record { number = number.0; is = inr (record { has = has; number_is = number.1 }) }

-- contents of pages whose root says that there is no journal are those of the image
pub has_plain : (journal : Bool) (pages : ℕ) (contents : Contents) (image : Image) → journal ≡ false → HasContentsWith journal pages contents image → HasContents pages contents image
has_plain journal pages contents image plain has = record {
  number = has.number;
  is = inl (record { format = has.format; array = has.array; means = has.means; kind = has.kind ∙ plain; spelled = has.spelled; represents = has.represents });
}

-- ---- one contents

-- the contents of pages, without their number
pub with_number : (pages number : ℕ) (contents : Contents) (image : Image) → HasContentsUnder false pages number contents image → HasContentsWith false pages contents image
with_number pages number contents image under = record {
  format = under.format;
  number = number;
  array = under.array;
  means = under.means;
  kind = under.kind;
  spelled = under.spelled;
  represents = under.represents;
}

-- no image has a journal and has none
pub never_both : (image : Image) (pages others number : ℕ) (contents other : Contents) → HasContentsUnder false pages number contents image → HasJournaledContents others other image → ⊥
never_both image pages others number contents other plain has =
    let same = one_meaning pages others plain.format has.under.format number has.root plain.array has.under.array image plain.means has.under.means in
    false≢true (sym plain.kind ∙ (ap has_journal same.0 ∙ has.under.kind))

one_of : (image : Image) (pages others m n : ℕ) (contents other : Contents) → HasContentsUnder false pages m contents image ⊎ IsJournaledUnder pages m contents image
    → HasContentsUnder false others n other image ⊎ IsJournaledUnder others n other image → contents ≡ other
one_of image pages others m n contents other (inl plain) (inl also) =
    same_contents_with false image pages others contents other (with_number pages m contents image plain) (with_number others n other image also)
one_of image pages others m n contents other (inl plain) (inr also) = absurd (never_both image pages others m contents other plain also.has)
one_of image pages others m n contents other (inr has) (inl plain) = absurd (never_both image others pages n other contents plain has.has)
one_of image pages others m n contents other (inr has) (inr also) = one_journaled image pages others contents other has.has also.has

pub one_contents : (image : Image) (pages others : ℕ) (contents other : Contents) → HasContents pages contents image → HasContents others other image → contents ≡ other
one_contents image pages others contents other has also = one_of image pages others has.number also.number contents other has.is also.is

-- what is read of an image that has these contents
pub read_has : (image : Image) (pages : ℕ) (contents : Contents) (x : Option Contents) → HasContents pages contents image → IsReadAs pages image x → x ≡ Some contents
read_has image pages contents (Some other) has read = ap (λ (c : Contents). Some c) (one_contents image pages pages other contents read has)
read_has image pages contents None has none = absurd (none contents has)

-- and of one with a journal
pub read_is : (image : Image) (pages : ℕ) (contents : Contents) (x : Option Contents) → HasJournaledContents pages contents image → IsReadAs pages image x → x ≡ Some contents
read_is image pages contents x has read = read_has image pages contents x (has_journaled image pages contents has) read
