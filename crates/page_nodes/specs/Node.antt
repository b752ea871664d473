-- The bytes of a page that is a node of the tree. Numbers are spelled with the highest byte first.
use Rattle.std.specs.Prelude.{◌≡◌, ℕ, ◌+◌, ◌-◌, ◌<◌, ◌≤◌, List, [], ◌∷◌, ◌++◌, length, replicate, drop, slice_index}
use Rattle.byteorder.specs.Endian.{big_bytes}
use Rattle.page_nodes.specs.declared.cell.NodeKind.{NodeKind}
use Rattle.page_nodes.specs.declared.cell.NodeKind.TheVariants.{Leaf, Inner}
use Rattle.page_nodes.specs.Map.{Entry, IsRising}

-- the bytes of a page
abbrev pub page_size : ℕ
page_size = 4096

abbrev pub two_bytes : ℕ → List ℕ
two_bytes n = big_bytes 2 n

abbrev pub four_bytes : ℕ → List ℕ
four_bytes n = big_bytes 4 n

-- a number that two bytes spell
abbrev pub IsCount : ℕ → Type 0
IsCount n = n < 65536

-- A cell is a key with its payload: in a leaf the value, in an inner node the page of a child, in four bytes.
abbrev pub IsKeySize : List ℕ → Type 0
IsKeySize key = (1 ≤ length key) × (length key ≤ 205)

-- a key that is not longer than a record's may be; it may be empty
abbrev pub IsShortKey : List ℕ → Type 0
IsShortKey key = length key ≤ 205

abbrev pub IsValueSize : List ℕ → Type 0
IsValueSize value = length value ≤ 1200

abbrev pub IsPayloadSize : NodeKind → List ℕ → Type 0
IsPayloadSize Leaf payload = length payload ≤ 1200
IsPayloadSize Inner payload = length payload ≡ 4

abbrev pub HasSizes : NodeKind → List Entry → Type 0
HasSizes kind [] = Unit {0}
HasSizes kind (c ∷ cs) = IsKeySize c.0 × IsPayloadSize kind c.1 × HasSizes kind cs

-- in a leaf the two lengths, the key and the value; in an inner node the key's length, the child and the key
unfoldable pub cell_bytes : NodeKind → Entry → List ℕ
cell_bytes Leaf c = two_bytes (length c.0) ++ (two_bytes (length c.1) ++ (c.0 ++ c.1))
cell_bytes Inner c = two_bytes (length c.0) ++ (c.1 ++ c.0)

abbrev pub cells_bytes : NodeKind → List Entry → List ℕ
cells_bytes kind [] = []
cells_bytes kind (c ∷ cs) = cell_bytes kind c ++ cells_bytes kind cs

-- the byte that says what a node is
abbrev pub tag : NodeKind → ℕ
tag Leaf = 1
tag Inner = 2

-- where the cells begin
abbrev pub start : NodeKind → ℕ
start Leaf = 4
start Inner = 8

-- cells of so many bytes fit in the page of a node, or are too long for it
abbrev pub FitsPage : NodeKind → ℕ → Type 0
FitsPage kind cells = start kind + cells ≤ 4096

abbrev pub ExceedsPage : NodeKind → ℕ → Type 0
ExceedsPage kind cells = 4096 < start kind + cells

-- the child before the first cell: four bytes in an inner node, none in a leaf
abbrev pub IsFirst : NodeKind → List ℕ → Type 0
IsFirst Leaf first = length first ≡ 0
IsFirst Inner first = length first ≡ 4

-- the front of a node's bytes; the rest of the page is zero
abbrev pub front_bytes : NodeKind → List ℕ → List Entry → List ℕ
front_bytes kind first cells = (tag kind ∷ 0 ∷ two_bytes (length cells)) ++ (first ++ cells_bytes kind cells)

abbrev pub zeros_after : NodeKind → List ℕ → List Entry → List ℕ
zeros_after kind first cells = replicate (4096 - length (front_bytes kind first cells)) 0

-- the bytes from an index on, up to another, are zeros
abbrev pub AreZeros : List ℕ → ℕ → ℕ → Type 0
AreZeros bytes from end = (k : ℕ) → from ≤ k → k < end → slice_index bytes k ≡ 0

-- these bytes spell a node with these cells
pub record IsNode (kind : NodeKind) (first : List ℕ) (cells : List Entry) (bytes : List ℕ) : Type 0 where
  pub first_size : IsFirst kind first
  pub sizes : HasSizes kind cells
  pub fits : length (front_bytes kind first cells) ≤ 4096
  pub spelled : bytes ≡ front_bytes kind first cells ++ zeros_after kind first cells

-- an inner node has a cell
abbrev pub HasCell : NodeKind → ℕ → Type 0
HasCell Leaf count = Unit {0}
HasCell Inner count = 0 < count

-- these bytes are a node: spelled, its keys rising, and with a cell where it is an inner one
pub record IsWhole (bytes : List ℕ) (kind : NodeKind) : Type 0 where
  pub first : List ℕ
  pub cells : List Entry
  pub node : IsNode kind first cells bytes
  pub rising : IsRising cells
  pub some : HasCell kind (length cells)

-- a cell is spelled at an index, and ends at another
pub record IsCellAt (kind : NodeKind) (bytes : List ℕ) (at : ℕ) (key payload : List ℕ) (end : ℕ) : Type 0 where
  pub key_size : IsKeySize key
  pub payload_size : IsPayloadSize kind payload
  pub spelled : drop at bytes ≡ cell_bytes kind (key, payload) ++ drop end bytes
  pub order : at < end
  pub inside : end ≤ length bytes
