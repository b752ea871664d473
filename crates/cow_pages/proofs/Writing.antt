-- The sectors of pages and of roots.
use Rattle.std.proofs.Common.{◌≡◌, ◌≢◌, ◌<◌, ◌≤◌, ◌+◌, ◌*◌, ℕ, zero, suc, Some, refl, arith, inl, inr}
use Rattle.std.proofs.lemmas.Bool.{cases_lt}
use Rattle.sector_device.specs.Device.{Image}
use Rattle.sector_device.specs.Page.{IsOutside}
use Rattle.cow_pages.specs.Image.{bytes_of_page, page_of}

-- the sectors of other pages
pub other_page : (q page k : ℕ) → page ≢ q → k < 8 → IsOutside (8 * q) 8 (8 * page + k)
other_page q page k other lt = elim (cases_lt page q) [
  | inl below ↦ inl (omega (arith, below, lt))
  | inr above ↦ inr (omega (arith, above, other))
]

pub root_page : (q s : ℕ) → 1 ≤ q → s < 2 → IsOutside (8 * q) 8 s
root_page q s some lt = inl (omega (arith, some, lt))

pub page_there : (image : Image) (q : ℕ) → 1 ≤ q → page_of image q ≡ Some (bytes_of_page image q)
page_there image zero some = absurd (omega arith)
page_there image (suc q) some = refl
