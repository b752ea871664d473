-- The bytes of a page are those of its eight sectors.
use Rattle.std.proofs.Common.{◌≡◌, ◌<◌, ◌+◌, ◌*◌, ℕ, zero, suc, List, ◌++◌, refl, sym, ap, ◌∙◌, arith}
use Rattle.std.specs.List.{flat_map, range_with_len}
use Rattle.sector_device.specs.Device.{Image}
use Rattle.sector_device.specs.Page.{page_at}
use Rattle.cow_pages.specs.Image.{bytes_of_page}

pub page_is : (image : Image) (page : ℕ) → bytes_of_page image page ≡ page_at image (8 * page)
unfolding bytes_of_page
page_is image page = refl

-- the same sectors, joined
same_sectors : (a b : Image) (n first : ℕ) → ((k : ℕ) → k < n → a (first + k) ≡ b (first + k)) → flat_map a (range_with_len first n) ≡ flat_map b (range_with_len first n)
same_sectors a b zero first same = refl
same_sectors a b (suc n) first same =
    let at : first + 0 ≡ first = omega arith in
    let here : a first ≡ b first = ap (λ (s : ℕ). a s) (sym at) ∙ same 0 (omega arith) ∙ ap (λ (s : ℕ). b s) at in
    let rest = same_sectors a b n (first + 1) (λ k lt.
    let next : first + 1 + k ≡ first + suc k = omega arith in
    ap (λ (s : ℕ). a s) next ∙ same (suc k) (omega (arith, lt)) ∙ ap (λ (s : ℕ). b s) (sym next)) in
    ap (λ (l : List ℕ). l ++ flat_map a (range_with_len (first + 1) n)) here ∙ ap (λ (l : List ℕ). b first ++ l) rest

-- pages of the same sectors are the same
pub same_page : (a b : Image) (page : ℕ) → ((k : ℕ) → k < 8 → a (8 * page + k) ≡ b (8 * page + k)) → bytes_of_page a page ≡ bytes_of_page b page
same_page a b page same = page_is a page ∙ same_sectors a b 8 (8 * page) same ∙ sym (page_is b page)
