-- An array of pages, as what stands on it sees it.
use Rattle.std.specs.Prelude.{◌≡◌, ◌≢◌, ◌⊎◌, ℕ, Option, Some, None, List, Contains}

-- the bytes of each logical page that is in use
abbrev pub Array : Type 0
Array = ℕ → Option (List ℕ)

pub record PagesState : Type 1 where
  -- what is below the pages keeps what they wrote
  pub sound : Type 0
  pub array : Array

-- nothing has changed
pub record OnlyReads (old new : PagesState) : Type 0 where
  pub sound : new.sound
  pub same : (l : ℕ) → new.array l ≡ old.array l

-- one page is written, and no other changes
pub record Writes (page : ℕ) (bytes : List ℕ) (old new : PagesState) : Type 0 where
  pub sound : new.sound
  pub here : new.array page ≡ Some bytes
  pub others : (l : ℕ) → l ≢ page → new.array l ≡ old.array l

-- a page that was not in use is written, and no other changes
pub record Takes (page : ℕ) (bytes : List ℕ) (old new : PagesState) : Type 0 where
  pub was_free : old.array page ≡ None
  pub writes : Writes page bytes old new

-- one page is in use no more, and no other changes
pub record Frees (page : ℕ) (old new : PagesState) : Type 0 where
  pub sound : new.sound
  pub here : new.array page ≡ None
  pub others : (l : ℕ) → l ≢ page → new.array l ≡ old.array l

-- the page below that a logical page has for its own
abbrev pub OwnPages : Type 1
OwnPages = ℕ → ℕ → Type 0

-- of all logical pages these alone get a page of their own
abbrev pub GetOwn : List ℕ → OwnPages → OwnPages → Type 0
GetOwn pages old new = (l page : ℕ) → new l page → old l page ⊎ Contains pages l

-- a logical page has no page of its own
abbrev pub HasNoOwn : ℕ → OwnPages → Type 0
HasNoOwn l own = (page : ℕ) → own l page → ⊥
