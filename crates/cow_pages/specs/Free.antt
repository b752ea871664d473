-- How many pages are free between two calls.
use Rattle.std.specs.Prelude.{◌≡◌, ◌<◌, ℕ, List, Contains, length, slice_index}
use Rattle.sector_device.specs.declared.device.Device.{Ghosts}
use Rattle.cow_pages.specs.declared.cow.CowPages.{CowPages}
use Rattle.cow_pages.specs.Cow.{IsFree, HasOwnPage}

-- these pages are free, each of them is named once, and no other page is free
pub record AreFree {D : Type 0} {g : Ghosts D} (free : List ℕ) (p : CowPages D g) : Type 0 where
  pub each : (i : ℕ) → i < length free → IsFree p (slice_index free i)
  pub differ : (i j : ℕ) → i < length free → j < length free → slice_index free i ≡ slice_index free j → i ≡ j
  pub all : (page : ℕ) → IsFree p page → Contains free page

-- so many pages are in neither reach
abbrev pub HasFreePages : {D : Type 0} {g : Ghosts D} → ℕ → CowPages D g → Type 0
HasFreePages count p = (free : List ℕ) × (length free ≡ count) × AreFree free p

-- a logical page has a page of its own
abbrev pub HasOwn : {D : Type 0} {g : Ghosts D} → CowPages D g → ℕ → Type 0
HasOwn p logical = (page : ℕ) × HasOwnPage p logical page

-- more than so many pages are free
abbrev pub HasMoreFree : {D : Type 0} {g : Ghosts D} → CowPages D g → ℕ → Type 0
HasMoreFree p last = (free : ℕ) × HasFreePages free p × (last < free)
