-- The entries of map pages, and the map of a root.
use Rattle.std.specs.Prelude.{ℕ, List}
use Rattle.std.specs.List.{flat_map}
use Rattle.page_roots.specs.Numbers.{bytes_of_numbers, numbers_in}

-- the 1,024 entries of a map page
abbrev pub entries_in : List ℕ → List ℕ
entries_in bytes = numbers_in 1024 bytes

-- the 4,096 bytes of a map page
abbrev pub map_page_bytes : List ℕ → List ℕ
map_page_bytes entries = bytes_of_numbers entries

-- the map of a root: the entries of its map pages, one map page after the other, where `page` gives the bytes of a
-- physical page. Entry l is the physical page of logical page l, or 0 where that one is not in use.
abbrev pub map_of : (ℕ → List ℕ) → List ℕ → List ℕ
map_of page maps = flat_map (λ p. entries_in (page p)) maps
