-- What a search in a node finds.
use Rattle.std.specs.Prelude.{◌≡◌, ℕ, ◌⊎◌, true, false, if◌then◌else◌, Option, Some, None, List, [], ◌∷◌, ◌++◌, length, drop, Contains}
use Rattle.page_nodes.specs.declared.cell.NodeKind.{NodeKind}
use Rattle.page_nodes.specs.declared.cell.CellView.{CellView}
use Rattle.page_nodes.specs.Map.{is_below, Entry, IsRising, low_entries, rest_entries}
use Rattle.page_nodes.specs.Node.{two_bytes, four_bytes, start, cells_bytes, HasSizes}

-- these cells are spelled at an index, and these bytes come after them
pub record AreCellsAt (kind : NodeKind) (bytes : List ℕ) (at : ℕ) (cells : List Entry) (after : List ℕ) : Type 0 where
  pub sizes : HasSizes kind cells
  pub spelled : drop at bytes ≡ cells_bytes kind cells ++ after

-- the cells of a node, as many as it says, are spelled up to an index, and their keys rise
pub record RiseTo (kind : NodeKind) (bytes : List ℕ) (end : ℕ) : Type 0 where
  pub cells : List Entry
  pub are : AreCellsAt kind bytes (start kind) cells (drop end bytes)
  pub rising : IsRising cells
  pub count : drop 2 bytes ≡ two_bytes (length cells) ++ drop 4 bytes

-- the cells from a key on are spelled at an index; so many cells come before it, and so many from there on
pub record IsPosition (kind : NodeKind) (bytes key : List ℕ) (cells : List Entry) (after : List ℕ) (at index left : ℕ) : Type 0 where
  pub rest : AreCellsAt kind bytes at (rest_entries key cells) after
  pub index_is : index ≡ length (low_entries key cells)
  pub left_is : left ≡ length (rest_entries key cells)

-- the cells from an index on are what is left of a node's for a search: those before them, if any, are below the key, and then the first of them is not after it
pub record IsStart (kind : NodeKind) (bytes key : List ℕ) (cells : List Entry) (after : List ℕ) (at index : ℕ) : Type 0 where
  pub front : List Entry
  pub rest : List Entry
  pub split : cells ≡ front ++ rest
  pub count : length front ≡ index
  pub here : AreCellsAt kind bytes at rest after
  pub below : (e : Entry) → Contains front e → is_below e.0 key ≡ true
  pub reached : (front ≡ []) ⊎ ((c : Entry) × (cs : List Entry) × (rest ≡ c ∷ cs) × (is_below key c.0 ≡ false))

-- an entry that is lent
abbrev pub IsLent : Option Entry → Option CellView → Type 0
IsLent None None = Unit {0}
IsLent None (Some view) = ⊥
IsLent (Some e) None = ⊥
IsLent (Some e) (Some view) = (view.key.now ≡ e.0) × (view.payload.now ≡ e.1)

-- the child under which a key belongs, as the bytes of its page
abbrev pub child_in : List ℕ → List ℕ → List Entry → List ℕ
child_in key first [] = first
child_in key first (c ∷ cs) = if is_below key c.0 then first else child_in key c.1 cs

-- the first cell whose key is after this one
abbrev pub cell_past : List ℕ → List Entry → Option Entry
cell_past key [] = None
cell_past key (c ∷ cs) = if is_below key c.0 then Some c else cell_past key cs

-- the child after that one
abbrev pub later_in : List ℕ → List Entry → Option (List ℕ)
later_in key [] = None
later_in key (c ∷ cs) = if is_below key c.0 then Some c.1 else later_in key cs

-- a page, as the bytes of its number
abbrev pub IsPage : Option (List ℕ) → Option ℕ → Type 0
IsPage None None = Unit {0}
IsPage None (Some page) = ⊥
IsPage (Some bytes) None = ⊥
IsPage (Some bytes) (Some page) = four_bytes page ≡ bytes

-- The child of a key and the child before it, or for the first child the one after it: the left one, and the cell of the right one.
abbrev pub pair_from : List ℕ → List ℕ → Entry → List Entry → List ℕ × Entry
pair_from key left c [] = (left, c)
pair_from key left c (d ∷ ds) = if is_below key d.0 then (left, c) else pair_from key c.1 d ds
