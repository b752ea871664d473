-- What follows a place of a dump.
use Rattle.std.proofs.Common.{◌≡◌, ◌⊎◌, inl, inr, ℕ, ◌+◌, ◌-◌, ◌*◌, ◌/◌, ◌<◌, ◌≤◌, ◌^◌, List, [], ◌∷◌, ◌++◌, length, take, drop, get_or, Some, refl, sym, ap, subst, ◌∙◌, arith, length-append}
use Rattle.std.proofs.lemmas.List.{append_assoc, take_at, drop_at, drop-append-le, length-drop}
use Rattle.byteorder.specs.Endian.{big_bytes, big_number}
use Rattle.byteorder.specs.Numbers.{big_from-append, big_number-reads_back, length-bytes_high_first}
use Rattle.sha2.specs.Sha256.{sha256}
use Rattle.sha2.proofs.Facts256.{length-sha256}
use Rattle.sector_device.specs.Device.{Image}
use Rattle.store.specs.Records.{Changes}
use Rattle.journal.specs.Changes.{Spells}
use Rattle.dumps.specs.Form.{Follows, IsBlock, block_of, ending, in_pages}
use Rattle.dumps.specs.OnDevice.{HasList, HasWholePages, DumpGoesOn, LeavesToRead, bytes_from}
use Rattle.dumps.specs.declared.place.DumpPlace.{DumpPlace}
use Rattle.dumps.proofs.Blocks.{block_is, block_pages, in_pages_long, one_list, padding}
use Rattle.dumps.proofs.Sectors.{joined}

-- ---- two lists, each in two parts

pub front_same : (a b c d : List ℕ) → a ++ b ≡ c ++ d → length a ≡ length c → a ≡ c
front_same a b c d same long = sym (take_at a b (length a) refl) ∙ ap (take (length a)) same ∙ ap (λ (n : ℕ). take n (c ++ d)) long ∙ take_at c d (length c) refl

pub back_same : (a b c d : List ℕ) → a ++ b ≡ c ++ d → length a ≡ length c → b ≡ d
back_same a b c d same long = sym (drop_at a b (length a) refl) ∙ ap (drop (length a)) same ∙ ap (λ (n : ℕ). drop n (c ++ d)) long ∙ drop_at c d (length c) refl

-- ---- the first bytes of parts

pub end_begins : (count : ℕ) (before : List ℕ) → get_or (ending count before) 0 0 ≡ 0
unfolding ending in_pages
end_begins count before = refl

pub block_begins : (spelled : List ℕ) → get_or (block_of spelled) 0 0 ≡ 1
block_begins spelled = ap (λ (l : List ℕ). get_or l 0 0) (block_is spelled)

pub begins_first : (spelled behind : List ℕ) → get_or (block_of spelled ++ behind) 0 0 ≡ 1
begins_first spelled behind = ap (λ (l : List ℕ). get_or (l ++ behind) 0 0) (block_is spelled)

pub length_in_front : (spelled behind : List ℕ) → length spelled < 2 ^ 26 → big_number 4 (drop 1 (block_of spelled ++ behind)) ≡ length spelled
length_in_front spelled behind short =
    ap (λ (l : List ℕ). big_number 4 (drop 1 (l ++ behind))) (block_is spelled)
    ∙ ap (λ (l : List ℕ). big_number 4 l) (append_assoc (big_bytes 4 (length spelled)) (spelled ++ padding spelled) behind)
    ∙ big_number-reads_back 4 (length spelled) ((spelled ++ padding spelled) ++ behind) (omega (arith, short))

-- the end is one page
pub end_long : (count : ℕ) (before : List ℕ) → length (ending count before) ≡ 4096
unfolding ending
end_long count before =
    let fields : length (0 ∷ (big_bytes 8 count ++ sha256 before)) ≡ 41 =
    omega (arith, length-append (big_bytes 8 count) (sha256 before), length-bytes_high_first 8 count, length-sha256 before) in
    in_pages_long (0 ∷ (big_bytes 8 count ++ sha256 before)) ∙ ap (λ (n : ℕ). 4096 * ((n + 4095) / 4096)) fields

-- something follows always
pub something_follows : (before : List ℕ) (count : ℕ) (lists : List Changes) (bytes : List ℕ) → Follows before count lists bytes → 1 ≤ length bytes
something_follows before count [] bytes is = omega (arith, ap length is, end_long count before)
something_follows before count (changes ∷ lists) bytes is =
    let block = is.2 in
    omega (arith, ap length is.3, length-append is.0 is.1, ap length block.is, ap length (block_is block.spelled))

-- ---- pages on a device

pub split : (sectors page pages : ℕ) (image : Image) → 8 * (page + pages) ≤ sectors
    → bytes_from image (8 * page) (sectors - 8 * page) ≡ bytes_from image (8 * page) (8 * pages) ++ bytes_from image (8 * (page + pages)) (sectors - 8 * (page + pages))
split sectors page pages image inside =
    let count : sectors - 8 * page ≡ 8 * pages + (sectors - 8 * (page + pages)) = omega (arith, inside) in
    let place : 8 * page + 8 * pages ≡ 8 * (page + pages) = omega arith in
    ap (λ (n : ℕ). bytes_from image (8 * page) n) count ∙ joined image (8 * pages) (sectors - 8 * (page + pages)) (8 * page)
    ∙ ap (λ (s : ℕ). bytes_from image (8 * page) (8 * pages) ++ bytes_from image s (sectors - 8 * (page + pages))) place

pub whole_behind : (sectors page pages : ℕ) (image : Image) → 8 * (page + pages) ≤ sectors → length (bytes_from image (8 * page) (8 * pages)) ≡ 4096 * pages → HasWholePages sectors image page
    → HasWholePages sectors image (page + pages)
whole_behind sectors page pages image inside long whole = record {
  pages = whole.pages;
  sized =
      let parts = ap length (split sectors page pages image inside) ∙ length-append (bytes_from image (8 * page) (8 * pages)) (bytes_from image (8 * (page + pages)) (sectors - 8 * (page + pages))) in
      omega (arith, parts, long, whole.sized, inside);
}

-- behind the last page nothing goes on
pub none_behind : (sectors page : ℕ) (image : Image) (before : List ℕ) (count : ℕ) (lists : List Changes) → sectors / 8 ≤ page → DumpGoesOn sectors image page before count lists → ⊥
none_behind sectors page image before count lists past is =
    let some = something_follows before count lists (bytes_from image (8 * page) (sectors - 8 * page)) is.follows in
    absurd (omega (arith, some, is.whole.sized, is.whole.pages, past))

-- ---- what a list is

-- and the others go on behind it
pub goes_on_behind : (sectors page pages : ℕ) (image : Image) (before block : List ℕ) (count : ℕ) (list : Changes) (lists : List Changes) → ((spelled : List ℕ) (a b : Changes) → Spells spelled a → Spells spelled b → a ≡ b)
    → 8 * (page + pages) ≤ sectors → bytes_from image (8 * page) (8 * pages) ≡ block → length block ≡ 4096 * pages → IsBlock block list → DumpGoesOn sectors image page before count lists
    → (rest : List Changes) × (lists ≡ list ∷ rest) × DumpGoesOn sectors image (page + pages) (before ++ block) (count + 1) rest
goes_on_behind sectors page pages image before block count list [] one inside there long is on =
    let behind = bytes_from image (8 * (page + pages)) (sectors - 8 * (page + pages)) in
    let same : block_of is.spelled ++ behind ≡ ending count before =
    ap (λ (l : List ℕ). l ++ behind) (sym (there ∙ is.is)) ∙ sym (split sectors page pages image inside) ∙ on.follows in
    let one_is_zero : 1 ≡ 0 = sym (begins_first is.spelled behind) ∙ ap (λ (l : List ℕ). get_or l 0 0) same ∙ end_begins count before in
    absurd (omega (arith, one_is_zero))
goes_on_behind sectors page pages image before block count list (other ∷ rest) one inside there long is on =
    let f = on.follows in
    let b = f.2 in
    let behind = bytes_from image (8 * (page + pages)) (sectors - 8 * (page + pages)) in
    let all : block ++ behind ≡ f.0 ++ f.1 = ap (λ (l : List ℕ). l ++ behind) (sym there) ∙ sym (split sectors page pages image inside) ∙ f.3 in
    let same_spelled : length is.spelled ≡ length b.spelled =
    sym (length_in_front is.spelled behind is.short) ∙ ap (λ (l : List ℕ). big_number 4 (drop 1 (l ++ behind))) (sym is.is) ∙ ap (λ (l : List ℕ). big_number 4 (drop 1 l)) all
    ∙ ap (λ (l : List ℕ). big_number 4 (drop 1 (l ++ f.1))) b.is ∙ length_in_front b.spelled f.1 b.short in
    let same_length : length block ≡ length f.0 =
    ap length is.is ∙ block_pages is.spelled ∙ ap (λ (n : ℕ). 4096 * ((n + 4100) / 4096)) same_spelled ∙ sym (block_pages b.spelled) ∙ sym (ap length b.is) in
    let same : block ≡ f.0 = front_same block behind f.0 f.1 all same_length in
    let later : behind ≡ f.1 = back_same block behind f.0 f.1 all same_length in
    let list_is : other ≡ list = one_list block other list one (subst (λ (l : List ℕ). IsBlock l other) (sym same) b) is in
    let here : length (bytes_from image (8 * page) (8 * pages)) ≡ 4096 * pages = ap length there ∙ long in (
      rest,
      ap (λ (cs : Changes). cs ∷ rest) list_is,
      record {
        whole = whole_behind sectors page pages image inside here on.whole;
        follows = subst (λ (l : List ℕ). Follows (before ++ block) (count + 1) rest l) (sym later) (subst (λ (l : List ℕ). Follows (before ++ l) (count + 1) rest f.1) (sym same) f.4);
      },
    )

-- ---- by the first page

-- the bytes of the first page begin all bytes behind a place
pub first_page : (sectors page : ℕ) (image : Image) (first : List ℕ) → first ≡ bytes_from image (8 * page) (8 * 1) → 8 * (page + 1) ≤ sectors
    → bytes_from image (8 * page) (sectors - 8 * page) ≡ first ++ bytes_from image (8 * (page + 1)) (sectors - 8 * (page + 1))
first_page sectors page image first is inside =
    split sectors page 1 image inside ∙ ap (λ (l : List ℕ). l ++ bytes_from image (8 * (page + 1)) (sectors - 8 * (page + 1))) (sym is)

-- the number behind the first byte is that of the first page
pub number_of_first : (all first rest : List ℕ) → all ≡ first ++ rest → 5 ≤ length first → big_number 4 (drop 1 first) ≡ big_number 4 (drop 1 all)
number_of_first all first rest is long =
    let behind : drop 1 all ≡ drop 1 first ++ rest = ap (λ (l : List ℕ). drop 1 l) is ∙ drop-append-le 1 first rest (omega (arith, long)) in
    sym (ap (λ (l : List ℕ). big_number 4 l) behind ∙ big_from-append 4 (drop 1 first) rest (omega (arith, length-drop 1 first, long)))

begins_so : (all first rest : List ℕ) → all ≡ first ++ rest → 1 ≤ length first → get_or all 0 0 ≡ get_or first 0 0
begins_so all [] rest is long = absurd (omega (arith, long))
begins_so all (byte ∷ first) rest is long = ap (λ (l : List ℕ). get_or l 0 0) is

-- where the first byte is that of a list, a list goes on
pub no_end : (sectors page : ℕ) (image : Image) (before : List ℕ) (count : ℕ) (first rest : List ℕ) → bytes_from image (8 * page) (sectors - 8 * page) ≡ first ++ rest → 1 ≤ length first
    → get_or first 0 0 ≡ 1 → DumpGoesOn sectors image page before count [] → ⊥
no_end sectors page image before count first rest is long one on =
    let zero_here : get_or first 0 0 ≡ 0 = sym (begins_so (bytes_from image (8 * page) (sectors - 8 * page)) first rest is long) ∙ ap (λ (l : List ℕ). get_or l 0 0) on.follows ∙ end_begins count before in
    omega (arith, one, zero_here)

-- where it is another one, none does
pub no_list : (sectors page : ℕ) (image : Image) (before : List ℕ) (count : ℕ) (first rest : List ℕ) (list : Changes) (lists : List Changes) → bytes_from image (8 * page) (sectors - 8 * page) ≡ first ++ rest
    → 1 ≤ length first → (get_or first 0 0 ≡ 1 → ⊥) → DumpGoesOn sectors image page before count (list ∷ lists) → ⊥
no_list sectors page image before count first rest list lists is long other on =
    let f = on.follows in
    other (sym (begins_so (bytes_from image (8 * page) (sectors - 8 * page)) first rest is long) ∙ ap (λ (l : List ℕ). get_or l 0 0) f.3
    ∙ ap (λ (l : List ℕ). get_or (l ++ f.1) 0 0) f.2.is ∙ begins_first f.2.spelled f.1)

-- the end is the first page, and the last one
pub end_there : (sectors page : ℕ) (image : Image) (before : List ℕ) (count : ℕ) (first rest : List ℕ) → bytes_from image (8 * page) (sectors - 8 * page) ≡ first ++ rest → length first ≡ 4096
    → DumpGoesOn sectors image page before count [] → (first ≡ ending count before) × (page + 1 ≡ sectors / 8)
end_there sectors page image before count first rest is long on =
    let same : first ++ rest ≡ ending count before ++ [] = sym is ∙ on.follows ∙ append_none (ending count before) in
    let size : 512 * (sectors - 8 * page) ≡ 4096 = sym on.whole.sized ∙ ap length on.follows ∙ end_long count before in
    (front_same first rest (ending count before) [] same (long ∙ sym (end_long count before)), omega (arith, size, on.whole.pages))
  where
    append_none : (l : List ℕ) → l ≡ l ++ []
    append_none [] = refl
    append_none (x ∷ l) = ap (λ (r : List ℕ). x ∷ r) (append_none l)

-- the length in the first list's block
length_of_list : (sectors page : ℕ) (image : Image) (before : List ℕ) (count : ℕ) (list : Changes) (lists : List Changes) (size : ℕ) → (on : DumpGoesOn sectors image page before count (list ∷ lists))
    → big_number 4 (drop 1 (bytes_from image (8 * page) (sectors - 8 * page))) ≡ size → size ≡ length on.follows.2.spelled
length_of_list sectors page image before count list lists size on number =
    let f = on.follows in
    sym number ∙ ap (λ (l : List ℕ). big_number 4 (drop 1 l)) f.3 ∙ ap (λ (l : List ℕ). big_number 4 (drop 1 (l ++ f.1))) f.2.is ∙ length_in_front f.2.spelled f.1 f.2.short

-- a list that goes on is no longer than any, and ends in the device
pub no_room_for_list : (sectors page : ℕ) (image : Image) (before : List ℕ) (count : ℕ) (list : Changes) (lists : List Changes) (size pages : ℕ) → pages ≡ sectors / 8
    → DumpGoesOn sectors image page before count (list ∷ lists) → big_number 4 (drop 1 (bytes_from image (8 * page) (sectors - 8 * page))) ≡ size
    → (2 ^ 26 ≤ size) ⊎ (pages < page + (size + 4100) / 4096) → ⊥
no_room_for_list sectors page image before count list lists size pages all on number fault =
    let f = on.follows in
    let same = length_of_list sectors page image before count list lists size on number in
    let block : length f.0 ≡ 4096 * ((size + 4100) / 4096) = ap length f.2.is ∙ block_pages f.2.spelled ∙ ap (λ (n : ℕ). 4096 * ((n + 4100) / 4096)) (sym same) in
    let parts = ap length f.3 ∙ length-append f.0 f.1 in
    elim fault [
      | inl long ↦ omega (arith, long, same, f.2.short)
      | inr behind ↦ omega (arith, behind, all, block, parts, on.whole.sized, on.whole.pages)
    ]

-- and its block is in so many pages
pub list_there : (sectors page : ℕ) (image : Image) (before : List ℕ) (count : ℕ) (list : Changes) (lists : List Changes) (size pages : ℕ) (bytes : List ℕ) → pages ≡ (size + 4100) / 4096
    → 8 * (page + pages) ≤ sectors → DumpGoesOn sectors image page before count (list ∷ lists) → big_number 4 (drop 1 (bytes_from image (8 * page) (sectors - 8 * page))) ≡ size
    → bytes ≡ bytes_from image (8 * page) (8 * pages) → length bytes ≡ 4096 * pages → IsBlock bytes list
list_there sectors page image before count list lists size pages bytes pages_is inside on number is long =
    let f = on.follows in
    let same = length_of_list sectors page image before count list lists size on number in
    let block : length f.0 ≡ 4096 * pages = ap length f.2.is ∙ block_pages f.2.spelled ∙ ap (λ (n : ℕ). 4096 * ((n + 4100) / 4096)) (sym same) ∙ ap (λ (n : ℕ). 4096 * n) (sym pages_is) in
    let there : bytes ≡ f.0 =
    is ∙ front_same (bytes_from image (8 * page) (8 * pages)) (bytes_from image (8 * (page + pages)) (sectors - 8 * (page + pages))) f.0 f.1
    (sym (split sectors page pages image inside) ∙ f.3) (sym (ap length is) ∙ long ∙ sym block) in
    subst (λ (l : List ℕ). IsBlock l list) (sym there) f.2

-- what is left to read behind a list that was read
pub leaves_to_read : (sectors : ℕ) (image : Image) (before : List ℕ) (changes : Changes) (lists : List Changes) (old new : DumpPlace) → ((spelled : List ℕ) (a b : Changes) → Spells spelled a → Spells spelled b → a ≡ b)
    → HasList sectors image before changes old new → DumpGoesOn sectors image old.page before old.lists lists → LeavesToRead sectors image before lists (Some changes) new
leaves_to_read sectors image before changes lists old new one is on =
    let on_behind = goes_on_behind sectors old.page is.pages image before is.block old.lists changes lists one (omega (arith, is.inside, is.page)) is.there is.long is.is on in (
      is.block,
      on_behind.0,
      on_behind.1,
      is.hashed,
      subst (λ (n : ℕ). DumpGoesOn sectors image n (before ++ is.block) new.lists on_behind.0) (sym is.page)
          (subst (λ (n : ℕ). DumpGoesOn sectors image (old.page + is.pages) (before ++ is.block) n on_behind.0) (sym is.lists) on_behind.2),
    )

-- nothing is left behind the end
pub none_left : (sectors page : ℕ) (image : Image) (before : List ℕ) (count : ℕ) (first rest : List ℕ) (lists : List Changes) → bytes_from image (8 * page) (sectors - 8 * page) ≡ first ++ rest → 1 ≤ length first
    → (get_or first 0 0 ≡ 1 → ⊥) → DumpGoesOn sectors image page before count lists → lists ≡ []
none_left sectors page image before count first rest [] is long other on = refl
none_left sectors page image before count first rest (list ∷ lists) is long other on = absurd (no_list sectors page image before count first rest list lists is long other on)

-- one list is left at least, where the first byte is that of one
pub first_left : (P : Type 0) (sectors page : ℕ) (image : Image) (before : List ℕ) (count : ℕ) (first rest : List ℕ) (lists : List Changes) → bytes_from image (8 * page) (sectors - 8 * page) ≡ first ++ rest → 1 ≤ length first
    → get_or first 0 0 ≡ 1 → DumpGoesOn sectors image page before count lists → ((list : Changes) (others : List Changes) → DumpGoesOn sectors image page before count (list ∷ others) → P) → P
first_left P sectors page image before count first rest [] is long one on then = absurd (no_end sectors page image before count first rest is long one on)
first_left P sectors page image before count first rest (list ∷ lists) is long one on then = then list lists on
