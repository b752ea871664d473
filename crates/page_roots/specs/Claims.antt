-- How the pages that a root names are counted off: each is claimed once.
use Rattle.std.specs.Prelude.{◌≡◌, ◌<◌, ◌⊎◌, ℕ, List, Bool, true, false, get_or, slice_index}
use Rattle.page_roots.specs.Reach.{IsPage}

-- each page that is named, 0 aside, is a page of the device, is not claimed yet, and is named once
pub record CanClaim (claimed : List Bool) (named : List ℕ) : Type 0 where
  pub free : (l : ℕ) → 0 < slice_index named l → get_or claimed (slice_index named l) true ≡ false
  pub differ : (l k : ℕ) → 0 < slice_index named l → slice_index named l ≡ slice_index named k → l ≡ k

-- the pages that are claimed now are those claimed before, and those named
pub record IsClaimed (old : List Bool) (named : List ℕ) (now : List Bool) : Type 0 where
  pub preserved : (page : ℕ) → get_or old page true ≡ true → get_or now page true ≡ true
  pub each : (l : ℕ) → 0 < slice_index named l → get_or now (slice_index named l) true ≡ true
  pub only : (page : ℕ) → get_or now page true ≡ true → (get_or old page true ≡ true) ⊎ IsPage named page
