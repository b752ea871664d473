-- The pages of a device as a set: which of them are taken.
use Rattle.std.specs.Prelude.{◌≡◌, ◌<◌, ◌≤◌, ℕ, List, Bool, true, false, ◌||◌, Contains, length, get_or, slice_index, slice_set}

-- for each page of a device whether it is taken
abbrev pub TakenPages : Type 0
TakenPages = List Bool

-- a page of the device that is taken
abbrev pub IsTaken : TakenPages → ℕ → Type 0
IsTaken taken page = get_or taken page false ≡ true

-- a page of the device that is free
abbrev pub IsFree : TakenPages → ℕ → Type 0
IsFree taken page = get_or taken page true ≡ false

-- the same pages, but for this one, which is taken now
abbrev pub with_taken : TakenPages → ℕ → TakenPages
with_taken taken page = slice_set taken page true

-- the same pages, but for this one, which is free now
abbrev pub with_free : TakenPages → ℕ → TakenPages
with_free taken page = slice_set taken page false

-- each page after page 0 is taken
abbrev pub IsFull : TakenPages → Type 0
IsFull taken = (page : ℕ) → 1 ≤ page → page < length taken → IsTaken taken page

-- a page after page 0 is taken exactly where it is in the reach of the durable root or in that of the working root
abbrev pub AreReached : TakenPages → (ℕ → Bool) → (ℕ → Bool) → Type 0
AreReached taken durable working = (page : ℕ) → 1 ≤ page → page < length taken → get_or taken page false ≡ (durable page || working page)

-- these pages are free, each of them is named once, and no other page is free; page 0 never is
pub record AreFree (free : List ℕ) (taken : TakenPages) : Type 0 where
  pub some : (i : ℕ) → i < length free → 1 ≤ slice_index free i
  pub each : (i : ℕ) → i < length free → IsFree taken (slice_index free i)
  pub differ : (i j : ℕ) → i < length free → j < length free → slice_index free i ≡ slice_index free j → i ≡ j
  pub all : (page : ℕ) → IsFree taken page → Contains free page

-- so many pages are free
abbrev pub HasFree : ℕ → TakenPages → Type 0
HasFree count taken = (free : List ℕ) × (length free ≡ count) × AreFree free taken
