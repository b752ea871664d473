-- A device with one page is an array.
use Rattle.std.proofs.Common.{◌≡◌, ◌≢◌, ◌<◌, ◌≤◌, ◌+◌, ◌*◌, ◌/◌, ◌%◌, ◌&&◌, eqb, leb, true, ℕ, zero, suc, List, [], ◌∷◌, Some, get_or, replicate, refl, sym, ap, subst, ◌∙◌, arith}
use Rattle.std.proofs.lemmas.List.{append-nil}
use Rattle.std.proofs.lemmas.Bool.{eqb-true, leb-true}
use Rattle.page_roots.specs.declared.format.Format.{Format}
use Rattle.page_roots.proofs.Reading.{both}
use Rattle.sector_device.specs.Device.{DeviceState, Image, IsLeft, IsSynced}
use Rattle.std.proofs.lemmas.Slice.Eq.{bytes_eq-Decides}
use Rattle.page_roots.specs.Sector.{root_at, zeros}
use Rattle.page_roots.proofs.Spelled.{empty_at}
use Rattle.page_roots.specs.Chosen.{IsOlder}
use Rattle.page_roots.specs.MapPage.{entries_in}
use Rattle.page_roots.specs.Reach.{IsSound}
use Rattle.page_roots.specs.declared.sector.RootSector.{RootSector}
use Rattle.page_roots.specs.declared.sector.RootSector.TheVariants.{Empty, Found}
use Rattle.cow_pages.specs.Image.{bytes_of_page, map_in, array_of, one_page, is_size, Means}
use Rattle.cow_pages.specs.Formatting.{first_root}
use Rattle.cow_pages.proofs.Bytes.{same_page}
use Rattle.cow_pages.proofs.Consistency.{zero_there}

-- an empty root sector
pub even_empty : (image : Image) → image 0 ≡ zeros → root_at 0 (image 0) ≡ Empty
even_empty image is = ap (λ (b : List ℕ). root_at 0 b) is ∙ empty_at 0 zeros ((bytes_eq-Decides zeros zeros).1 refl)

one_only : (n l : ℕ) → 0 < get_or (1 ∷ replicate n zero) l 0 → l ≡ 0
one_only n zero some = refl
one_only n (suc l) some = absurd (omega (arith, some, zero_there n l))

one_inside : (n l : ℕ) → get_or (1 ∷ replicate n zero) l 0 < 2
one_inside n zero = omega arith
one_inside n (suc l) = omega (arith, zero_there n l)

map_inside : (m j : ℕ) → j < 1 → get_or (m ∷ []) j 0 ≡ m
map_inside m zero lt = refl
map_inside m (suc j) lt = absurd (omega arith)

-- a size is 8 times as many pages
pub size_is : (sectors : ℕ) → is_size sectors ≡ true → (sectors ≡ 8 * (sectors / 8)) × (64 ≤ sectors / 8) × (sectors / 8 ≤ 65536)
size_is sectors is =
    let whole = both (eqb (sectors % 8) 0) (leb 64 (sectors / 8) && leb (sectors / 8) 65536) is in
    let sizes = both (leb 64 (sectors / 8)) (leb (sectors / 8) 65536) whole.1 in
    (omega (arith, eqb-true (sectors % 8) 0 whole.0), leb-true 64 (sectors / 8) sizes.0, leb-true (sectors / 8) 65536 sizes.1)

pub first_sound : (n pages : ℕ) → 3 ≤ pages → IsSound pages (2 ∷ []) (1 ∷ replicate n zero)
first_sound n pages room = record {
  first_in_use = omega arith;
  maps_inside = λ j lt. (omega (arith, map_inside 2 j lt), omega (arith, map_inside 2 j lt, room));
  entries_inside = λ l. omega (arith, one_inside n l, room);
  maps_differ = λ j k j_lt k_lt same. omega (arith, j_lt, k_lt);
  entries_differ = λ l k some same. one_only n l some ∙ sym (one_only n k (omega (arith, some, same)));
  apart = λ j l lt some same. omega (arith, map_inside 2 j lt, same, one_inside n l);
}

one_array : (image : Image) (n : ℕ) (first : List ℕ) → bytes_of_page image 1 ≡ first → (l : ℕ) → array_of image (1 ∷ replicate n zero) l ≡ one_page first l
one_array image n first is zero = ap (λ (b : List ℕ). Some b) is
one_array image n first is (suc l) = rw (zero_there n l) refl

-- an image with an empty root sector, the first root, the first page and its map
pub first_means : (image : Image) (pages : ℕ) (format : Format) (n : ℕ) (first : List ℕ) → 3 ≤ pages → root_at 0 (image 0) ≡ Empty → root_at 1 (image 1) ≡ Found (first_root pages format)
    → bytes_of_page image 1 ≡ first → entries_in (bytes_of_page image 2) ≡ 1 ∷ replicate n zero → Means pages format 1 (one_page first) image
first_means image pages format n first room even odd page map =
    let map_is : map_in image (2 ∷ []) ≡ 1 ∷ replicate n zero = append-nil (entries_in (bytes_of_page image 2)) ∙ map in
    record {
      root = first_root pages format;
      chosen = record {
        here = odd;
        other = subst (λ (r : RootSector). IsOlder r 1) (sym even) tt;
      };
      format_is = refl;
      number_is = refl;
      pages_is = refl;
      sound = subst (λ (es : List ℕ). IsSound pages (2 ∷ []) es) (sym map_is) (first_sound n pages room);
      array_is = λ l. ap (λ (es : List ℕ). array_of image es l) map_is ∙ one_array image n first page l;
    }

-- and one that agrees with such content, the root aside
pub content_means : (content image : Image) (pages : ℕ) (format : Format) (n : ℕ) (first : List ℕ) → 3 ≤ pages → ((s : ℕ) → s < 8 * pages → s ≢ 1 → image s ≡ content s) → root_at 1 (image 1) ≡ Found (first_root pages format)
    → root_at 0 (content 0) ≡ Empty → bytes_of_page content 1 ≡ first → entries_in (bytes_of_page content 2) ≡ 1 ∷ replicate n zero → Means pages format 1 (one_page first) image
content_means content image pages format n first room same odd even page map =
    first_means image pages format n first room
    (ap (λ (b : List ℕ). root_at 0 b) (same 0 (omega (arith, room)) (omega arith)) ∙ even) odd
    (same_page image content 1 (λ k lt. same (8 * 1 + k) (omega (arith, room, lt)) (omega arith)) ∙ page)
    (ap (λ (b : List ℕ). entries_in b) (same_page image content 2 (λ k lt. same (8 * 2 + k) (omega (arith, room, lt)) (omega arith))) ∙ map)

-- a device that can be left in one way only
pub formatted : (d : DeviceState) (content : Image) (pages : ℕ) (format : Format) (n : ℕ) (first : List ℕ) → d.sectors ≡ 8 * pages → 3 ≤ pages → IsSynced d → ((s : ℕ) → s ≢ 1 → d.content s ≡ content s)
    → root_at 1 (d.content 1) ≡ Found (first_root pages format) → root_at 0 (content 0) ≡ Empty → bytes_of_page content 1 ≡ first → entries_in (bytes_of_page content 2) ≡ 1 ∷ replicate n zero
    → (image : Image) → IsLeft d image → Means pages format 1 (one_page first) image
formatted d content pages format n first sectors room synced same odd even page map image left =
    let fixed : (s : ℕ) → s < 8 * pages → image s ≡ d.content s = λ s lt. let inside : s < d.sectors = omega (arith, lt, sectors) in synced s inside (image s) (left s inside) in
    content_means content image pages format n first room (λ s lt other. fixed s lt ∙ same s other)
    (ap (λ (b : List ℕ). root_at 1 b) (fixed 1 (omega (arith, room))) ∙ odd) even page map
