-- Offsets of some of a node's cells.
use Rattle.std.specs.Prelude.{◌≡◌, ℕ, ◌*◌, ◌<◌, true, List, ◌∷◌, ◌++◌, length, drop, slice_index, Contains}
use Rattle.page_nodes.specs.declared.cell.NodeKind.{NodeKind}
use Rattle.page_nodes.specs.Map.{is_below, Entry}
use Rattle.page_nodes.specs.Node.{cells_bytes, IsNode, zeros_after}

-- how many cells there are from one offset to the next
abbrev pub stride : ℕ
stride = 8

-- at an index a cell is spelled, and those behind it after it; the keys of those before it are below its own
pub record StandsAt (kind : NodeKind) (bytes : List ℕ) (at : ℕ) (front : List Entry) (cell : Entry) (behind : List Entry) (after : List ℕ) : Type 0 where
  pub spelled : drop at bytes ≡ cells_bytes kind (cell ∷ behind) ++ after
  pub below : (e : Entry) → Contains front e → is_below e.0 cell.0 ≡ true

-- a node has so many cells and more, and the one after them stands at an index
pub record HasCellAt (kind : NodeKind) (bytes : List ℕ) (cells : List Entry) (after : List ℕ) (number at : ℕ) : Type 0 where
  pub more : number < length cells
  pub stands : (front : List Entry) (cell : Entry) (behind : List Entry) → cells ≡ front ++ (cell ∷ behind) → length front ≡ number
      → StandsAt kind bytes at front cell behind after

-- these are the offsets of a node's first cell and of each eighth cell after it, as far as they go
abbrev pub HasOffsets : NodeKind → (bytes : List ℕ) (cells : List Entry) (after offsets : List ℕ) → Type 0
HasOffsets kind bytes cells after offsets =
    (n : ℕ) → n < length offsets → HasCellAt kind bytes cells after (stride * n) (slice_index offsets n)

-- they are those of the node that the bytes spell, where they spell one
abbrev pub AreOffsets : List ℕ → List ℕ → Type 0
AreOffsets bytes offsets =
    (kind : NodeKind) (first : List ℕ) (cells : List Entry) → IsNode kind first cells bytes
    → HasOffsets kind bytes cells (zeros_after kind first cells) offsets

-- each offset is within the page
abbrev pub AreInside : List ℕ → Type 0
AreInside offsets = (n : ℕ) → n < length offsets → slice_index offsets n < 4096
