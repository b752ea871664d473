-- The records of an array, met in a plain walk of its tree from left to right: by computing, of any array.
use Rattle.std.specs.Prelude.{◌<◌, IsSome, ℕ, zero, suc, ◌+◌, ◌==◌, if◌then◌else◌, List, [], ◌∷◌, Option, Some, None, take, drop, slice_index}
use Rattle.std.specs.List.{flat_map}
use Rattle.byteorder.specs.Endian.{big_number}
use Rattle.storage_sizes.specs.Sizes.{max_pages}
use Rattle.pages.specs.State.{Array}
use Rattle.page_nodes.specs.Map.{Entry}

-- so many cells of a leaf
unfoldable pub leaf_cells : ℕ → List ℕ → List Entry
leaf_cells zero bytes = []
leaf_cells (suc count) bytes =
    (take (big_number 2 bytes) (drop 4 bytes), take (big_number 2 (drop 2 bytes)) (drop (4 + big_number 2 bytes) bytes))
    ∷ leaf_cells count (drop (4 + big_number 2 bytes + big_number 2 (drop 2 bytes)) bytes)

-- so many cells of an inner node
unfoldable pub inner_cells : ℕ → List ℕ → List Entry
inner_cells zero bytes = []
inner_cells (suc count) bytes =
    (take (big_number 2 bytes) (drop 6 bytes), take 4 (drop 2 bytes)) ∷ inner_cells count (drop (6 + big_number 2 bytes) bytes)

-- the entries of a leaf, and the children of an inner node, the first one without its key
abbrev pub leaf_in : List ℕ → List Entry
leaf_in bytes = leaf_cells (big_number 2 (drop 2 bytes)) (drop 4 bytes)

abbrev pub children_in : List ℕ → List Entry
children_in bytes = ([], take 4 (drop 4 bytes)) ∷ inner_cells (big_number 2 (drop 2 bytes)) (drop 8 bytes)

-- the page that a cell names
abbrev pub child_page : Entry → ℕ
child_page c = big_number 4 c.1

-- the records of a page that is there: its entries, or those below its children
abbrev pub records_in : Option (List ℕ) → (Entry → List Entry) → List Entry
records_in None below = []
records_in (Some bytes) below = if slice_index bytes 0 == 1 then leaf_in bytes else flat_map below (children_in bytes)

-- the records below a page, within so many levels
abbrev pub records_below : ℕ → Array → ℕ → List Entry
records_below zero array page = []
records_below (suc levels) array page =
    records_in (array page) (λ c. records_below levels array (child_page c))

-- the records of an array: a tree has 17 levels at most
unfoldable pub records_of : Array → List Entry
records_of array = records_below 17 array 0

-- a page in use has a number of 16 bits
abbrev pub HasFewPages : Array → Type 0
HasFewPages array = (l : ℕ) → IsSome (array l) → l < max_pages
