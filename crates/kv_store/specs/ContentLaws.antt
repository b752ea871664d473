-- Images and their contents: laws that the ghost members of a store cite.
use Rattle.std.proofs.Common.{◌≡◌, ◌⊎◌, inl, inr, ℕ, Bool, false, Option, Some, None, sym, ap, ◌∙◌}
use Rattle.sector_device.specs.Device.{Image}
use Rattle.storage_sizes.specs.declared.record_format.RecordFormat.{RecordFormat}
use Rattle.store.specs.Records.{Records}
use Rattle.page_roots.specs.Formats.{record_format_of}
use Rattle.cow_pages.proofs.Meaning.{one_meaning}
use Rattle.cow_pages.proofs.Faults.{means_few}
use Rattle.page_tree.proofs.Represented.{one_map, map_of_same}
use Rattle.store.specs.Store.{Contents}
use Rattle.kv_store.specs.Contents.{HasContents, HasContentsWith, IsReadAs, IsReadWith}

-- contents with the same records, spelled alike
pub same_parts : (c d : Contents) → c.record_format ≡ d.record_format → c.records ≡ d.records → c ≡ d
same_parts c d record_format records =
    ap (λ (s : RecordFormat). let x : Contents = record { record_format = s; records = c.records } in x) record_format
    ∙ ap (λ (es : Records). let x : Contents = record { record_format = d.record_format; records = es } in x) records

pub same_contents_with : (journal : Bool) (image : Image) (pages others : ℕ) (contents other : Contents) → HasContentsWith journal pages contents image → HasContentsWith journal others other image → contents ≡ other
same_contents_with journal image pages others contents other has also =
    let same = one_meaning pages others has.format also.format has.number also.number has.array also.array image has.means also.means in
    same_parts contents other (sym has.spelled ∙ (ap record_format_of same.0 ∙ also.spelled))
    (one_map also.array contents.records other.records (λ l some. means_few image others also.format also.number also.array l also.means some)
    (map_of_same has.array also.array contents.records same.2 has.represents) also.represents)

pub same_contents : (image : Image) (pages others : ℕ) (contents other : Contents) → HasContents pages contents image → HasContents others other image → contents ≡ other
same_contents image pages others contents other has also = same_contents_with false image pages others contents other has also

-- what is read of an image whose pages have these contents
pub read_with : (journal : Bool) (image : Image) (pages : ℕ) (contents : Contents) (x : Option Contents) → HasContentsWith journal pages contents image → IsReadWith journal pages image x → x ≡ Some contents
read_with journal image pages contents (Some other) has read = ap (λ (c : Contents). Some c) (same_contents_with journal image pages pages other contents read has)
read_with journal image pages contents None has none = absurd (none contents has)

pub read_either : (journal : Bool) (image : Image) (pages : ℕ) (before after : Contents) (x : Option Contents) → HasContentsWith journal pages before image ⊎ HasContentsWith journal pages after image
    → IsReadWith journal pages image x → (x ≡ Some before) ⊎ (x ≡ Some after)
read_either journal image pages before after x has read = elim has [
  | inl is ↦ inl (read_with journal image pages before x is read)
  | inr is ↦ inr (read_with journal image pages after x is read)
]

-- what is read of an image that has these contents
pub read_is : (image : Image) (pages : ℕ) (contents : Contents) (x : Option Contents) → HasContents pages contents image → IsReadAs pages image x → x ≡ Some contents
read_is image pages contents x has read = read_with false image pages contents x has read
