-- A list of cells being changed.
use Rattle.std.specs.Prelude.{◌≡◌, ℕ, ◌+◌, ◌<◌, ◌≤◌, if◌then◌else◌, Option, List, [], ◌∷◌, ◌++◌, length}
use Rattle.page_nodes.specs.declared.cell.NodeKind.{NodeKind}
use Rattle.page_nodes.specs.declared.cell.NodeKind.TheVariants.{Leaf, Inner}
use Rattle.page_nodes.specs.declared.scratch.Edit.{Edit}
use Rattle.page_nodes.specs.Map.{is_below, Entry, edited, rest_entries}
use Rattle.page_nodes.specs.Node.{cells_bytes, start}

-- of cells whose keys are at or after this one, those after it
abbrev pub cells_after : List ℕ → List Entry → List Entry
cells_after key [] = []
cells_after key (c ∷ cs) = if is_below key c.0 then c ∷ cs else cs

-- Scratch spells the cells of a node with this payload at a key, or without the cell of that key; so many they are, and so many of them come after the key.
pub record IsEdited (kind : NodeKind) (key : List ℕ) (payload : Option (List ℕ)) (cells : List Entry) (scratch : List ℕ) (edit : Edit) : Type 0 where
  pub spelled : scratch ≡ cells_bytes kind (edited key payload cells)
  pub count_is : edit.count ≡ length (edited key payload cells)
  pub after_is : edit.after ≡ length (cells_after key (rest_entries key cells))

-- the length of the longest cell
abbrev pub max_cell_length : NodeKind → ℕ
max_cell_length Leaf = 1409
max_cell_length Inner = 211

-- cells of so many bytes exceed a page by one cell at most
abbrev pub IsOneCellOver : NodeKind → ℕ → Type 0
IsOneCellOver kind cells = start kind + cells ≤ 4096 + max_cell_length kind

-- after a cut comes a cell, and in an inner node two, of which the first becomes the separator
abbrev pub min_cells : NodeKind → ℕ
min_cells Leaf = 1
min_cells Inner = 2

-- a cut before this cell of so many has as few as may be after it
abbrev pub IsLeastAfter : NodeKind → ℕ → ℕ → Type 0
IsLeastAfter kind index count = index + min_cells kind ≡ count

-- there are cells before the last ones, and they fit in a page
pub record EndFits (kind : NodeKind) (cells : List Entry) : Type 0 where
  pub front : List Entry
  pub back : List Entry
  pub whole : cells ≡ front ++ back
  pub some : 0 < length front
  pub last : length back ≡ min_cells kind
  pub front_fits : start kind + length (cells_bytes kind front) ≤ 4096

-- Where cells that are too long for a page are cut: each part fits, and each has cells.
pub record IsCut (kind : NodeKind) (cells : List Entry) (at index : ℕ) : Type 0 where
  pub front : List Entry
  pub back : List Entry
  pub whole : cells ≡ front ++ back
  pub at_is : at ≡ length (cells_bytes kind front)
  pub index_is : index ≡ length front
  pub some : 0 < length front
  pub more : min_cells kind ≤ length back
  pub front_fits : start kind + length (cells_bytes kind front) ≤ 4096
  pub back_fits : start kind + length (cells_bytes kind back) ≤ 4096
