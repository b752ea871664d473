-- The reach of a root: the pages that it names.
use Rattle.std.specs.Prelude.{◌≡◌, ◌≢◌, ◌⊎◌, ◌<◌, ◌≤◌, ◌==◌, ◌&&◌, ℕ, List, [], ◌∷◌, ◌++◌, Bool, true, not, filter, length, slice_index, nat_lt, Contains}
use Rattle.std.specs.List.{list_all, list_any}

-- the map pages, and all entries that are not 0
abbrev pub reach : List ℕ → List ℕ → List ℕ
reach maps entries = maps ++ filter (λ page. not (page == 0)) entries

-- whether a page is in the reach
abbrev pub is_reached : List ℕ → List ℕ → ℕ → Bool
is_reached maps entries page = list_any (λ other. page == other) (reach maps entries)

-- no page is named twice
abbrev pub are_distinct : List ℕ → Bool
are_distinct [] = true
are_distinct (page ∷ pages) = not (list_any (λ other. page == other) pages) && are_distinct pages

-- logical page 0 is in use, and the pages of the reach are at least 1, below the number of pages, and differ from
-- each other
abbrev pub is_sound : ℕ → List ℕ → List ℕ → Bool
is_sound pages maps entries = nat_lt 0 (slice_index entries 0)
    && (list_all (λ page. nat_lt 0 page && nat_lt page pages) (reach maps entries) && are_distinct (reach maps entries))

-- a page that an entry names
abbrev pub IsPage : List ℕ → ℕ → Type 0
IsPage entries page = (l : ℕ) × (slice_index entries l ≡ page) × (0 < page)

-- a page of the reach: a map page, or one that an entry names
abbrev pub InReach : List ℕ → List ℕ → ℕ → Type 0
InReach maps entries page = Contains maps page ⊎ IsPage entries page

-- the same as is_sound, place by place
pub record IsSound (pages : ℕ) (maps entries : List ℕ) : Type 0 where
  pub first_in_use : 0 < slice_index entries 0
  pub maps_inside : (j : ℕ) → j < length maps → (1 ≤ slice_index maps j) × (slice_index maps j < pages)
  pub entries_inside : (l : ℕ) → slice_index entries l < pages
  pub maps_differ : (j k : ℕ) → j < length maps → k < length maps → slice_index maps j ≡ slice_index maps k → j ≡ k
  pub entries_differ : (l k : ℕ) → 0 < slice_index entries l → slice_index entries l ≡ slice_index entries k → l ≡ k
  pub apart : (j l : ℕ) → j < length maps → 0 < slice_index entries l → slice_index maps j ≢ slice_index entries l
