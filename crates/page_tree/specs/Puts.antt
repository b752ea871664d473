-- What a put makes of nodes and of trees.
use Rattle.std.specs.Prelude.{◌≡◌, ◌≢◌, ℕ, suc, ◌+◌, ◌<◌, ◌≤◌, ◌⊎◌, Option, Some, None, IsSome, List, [], ◌∷◌, ◌++◌, length}
use Rattle.pages.specs.State.{Array, PagesState, Takes}
use Rattle.page_nodes.specs.declared.cell.NodeKind.{NodeKind}
use Rattle.page_nodes.specs.declared.cell.NodeKind.TheVariants.{Leaf, Inner}
use Rattle.page_nodes.specs.Map.{Entry, with_entry}
use Rattle.page_nodes.specs.Node.{four_bytes, cells_bytes, start, HasSizes, IsNode}
use Rattle.page_nodes.specs.Scratch.{max_cell_length, min_cells, EndFits}
use Rattle.page_tree.specs.Forest.{Forest, cells, entries, Meets, next, Holds, IsSound, IsFull}

-- scratch spells these cells, so many, which exceed a page by one cell at most
pub record AreInScratch (kind : NodeKind) (cells : List Entry) (bytes : List ℕ) (count : ℕ) : Type 0 where
  pub sizes : HasSizes kind cells
  pub spelled : bytes ≡ cells_bytes kind cells
  pub count_is : count ≡ length cells
  pub short : start kind + length bytes ≤ 4096 + max_cell_length kind

-- of the cells after a cut, what the new node has before its cells, and its cells: an inner node has the child of the first cell before them
abbrev pub first_of_second : NodeKind → Entry → List ℕ
first_of_second Leaf c = []
first_of_second Inner c = c.1

abbrev pub cells_of_second : NodeKind → Entry → List Entry → List Entry
cells_of_second Leaf c back = c ∷ back
cells_of_second Inner c back = back

-- a new page holds the cells after a cut, and the key of the first of them is the separator
pub record IsTaken (kind : NodeKind) (c : Entry) (back : List Entry) (separator : List ℕ) (page : ℕ) (old new : PagesState) : Type 0 where
  pub separator_is : separator ≡ c.0
  pub bytes : List ℕ
  pub node : IsNode kind (first_of_second kind c) (cells_of_second kind c back) bytes
  pub takes : Takes page bytes old new

-- a page holds the cells before a cut, a new page those after it, and no other page has changed
pub record AreSplit (kind : NodeKind) (first : List ℕ) (cells : List Entry) (page made : ℕ) (separator : List ℕ) (old new : Array) : Type 0 where
  pub front : List Entry
  pub c : Entry
  pub back : List Entry
  pub whole : cells ≡ front ++ (c ∷ back)
  pub some : 0 < length front
  pub more : min_cells kind ≤ suc (length back)
  pub separator_is : separator ≡ c.0
  pub bytes : List ℕ
  pub node : IsNode kind first front bytes
  pub here : new page ≡ Some bytes
  pub second_bytes : List ℕ
  pub second_node : IsNode kind (first_of_second kind c) (cells_of_second kind c back) second_bytes
  pub was_free : old made ≡ None
  pub there : new made ≡ Some second_bytes
  pub others : (l : ℕ) → l ≢ page → l ≢ made → new l ≡ old l

-- a page holds all but the last of the cells, and a new page the last one, or two in an inner node
pub record IsCutAtEnd (array : Array) (page made : ℕ) (kind : NodeKind) (first : List ℕ) {cells : List Entry} (fits : EndFits kind cells) : Type 0 where
  pub here : Holds array page kind first fits.front
  pub c : Entry
  pub back : List Entry
  pub back_is : fits.back ≡ c ∷ back
  pub there : Holds array made kind (first_of_second kind c) (cells_of_second kind c back)

-- a page holds the cells, and no other page has changed
pub record AreWritten (kind : NodeKind) (first : List ℕ) (cells : List Entry) (page : ℕ) (old new : Array) : Type 0 where
  pub bytes : List ℕ
  pub node : IsNode kind first cells bytes
  pub here : new page ≡ Some bytes
  pub others : (l : ℕ) → l ≢ page → new l ≡ old l

-- one page holds the cells, or two do
abbrev pub AreStored : NodeKind → List ℕ → List Entry → ℕ → Option ℕ → List ℕ → Array → Array → Type 0
AreStored kind first cells page None separator old new = AreWritten kind first cells page old new
AreStored kind first cells page (Some made) separator old new = AreSplit kind first cells page made separator old new

-- The trees have the entry in addition, on the pages that they had and on new ones; each page that was taken is met; and no page of others has changed.
pub record HasPut (A B : Array) (key value : List ℕ) (depth : ℕ) (high : Option (List ℕ)) (old new : Forest) : Type 0 where
  pub sound : IsSound B depth high new
  pub full : IsFull new
  pub entries_are : entries new ≡ with_entry key value (entries old)
  pub begins : next new None ≡ next old None
  pub met : (q : ℕ) → Meets q new → Meets q old ⊎ (A q ≡ None)
  pub meets : (q : ℕ) → Meets q old → Meets q new
  pub taken : (q : ℕ) → IsSome (B q) → IsSome (A q) ⊎ Meets q new
  pub others : (q : ℕ) → IsSome (A q) → (Meets q old → ⊥) → B q ≡ A q
  pub stays : (q : ℕ) → IsSome (A q) → IsSome (B q)

-- the cell of a tree that was made, if one was
abbrev pub made_cells : List ℕ → Option ℕ → List Entry
made_cells separator None = []
made_cells separator (Some made) = (separator, four_bytes made) ∷ []

-- a put has left one tree under a page, or two side by side, of which the second is new
pub record IsPutBelow (A B : Array) (key value : List ℕ) (depth : ℕ) (low : List ℕ) (high : Option (List ℕ)) (page : ℕ) (old : Forest) (made : Option ℕ) (separator : List ℕ) : Type 0 where
  pub new : Forest
  pub put : HasPut A B key value depth high old new
  pub top : cells new ≡ (low, four_bytes page) ∷ made_cells separator made
