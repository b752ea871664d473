-- Pages in memory.
use Rattle.std.specs.Prelude.{ℕ, ◌<◌, IsSome, Option, None, List, get_or, unwrap_or}
use Rattle.storage_sizes.specs.Sizes.{max_pages}
use Rattle.pages.specs.declared.array.PageFault.{PageFault}
use Rattle.pages.specs.declared.array.PageFault.TheVariants.{Full, Memory, Device, Malformed}
use Rattle.pages.specs.declared.memory.MemPages.{MemPages}
use Rattle.pages.specs.State.{PagesState}

-- each page below this one is in use
abbrev pub AreUsed : ℕ → List (Option (List ℕ)) → Type 0
AreUsed used pages = (l : ℕ) → l < used → IsSome (get_or pages l None)

-- no page has a number past 16 bits, and each below `used` is in use
pub record IsStored (pages : List (Option (List ℕ))) (used : ℕ) : Type 0 where
  pub few : (l : ℕ) → IsSome (get_or pages l None) → l < max_pages
  pub below : AreUsed used pages

-- the array, as what stands on it sees it
abbrev pub state_of : MemPages → PagesState
state_of p = record { sound = IsStored p.pages.items p.used; array = λ l. get_or p.pages.items l None }

-- the bytes that are lent of the page that was fetched last
abbrev pub fetched_bytes : MemPages → List ℕ
fetched_bytes p = unwrap_or (get_or p.pages.items p.fetched None) p.blank

-- Why a call failed: no page is left, or an allocation failed, or the page was not in use. No device is below.
abbrev pub FailedWith : List (Option (List ℕ)) → PageFault → Type 0
FailedWith pages Full = (l : ℕ) → l < max_pages → IsSome (get_or pages l None)
FailedWith pages Memory = Unit {0}
FailedWith pages Device = ⊥
FailedWith pages Malformed = Unit {0}
