-- Cells of a leaf that are edited one after another, in the order of their keys.
use Rattle.std.specs.Prelude.{◌≡◌, ℕ, true, List, [], ◌∷◌, ◌++◌, length, drop}
use Rattle.page_nodes.specs.declared.cell.NodeKind.TheVariants.{Leaf}
use Rattle.page_nodes.specs.declared.merge.LeafMerge.{LeafMerge}
use Rattle.page_nodes.specs.Map.{is_below, Entry}
use Rattle.page_nodes.specs.Node.{cells_bytes, HasSizes, FitsPage}
use Rattle.page_nodes.specs.Search.{AreCellsAt}

-- each key is before this one
abbrev pub AllBelow : List ℕ → List Entry → Type 0
AllBelow key [] = Unit {0}
AllBelow key (e ∷ es) = (is_below e.0 key ≡ true) × AllBelow key es

-- Of these cells the first are in scratch, where none has a key after the last one that was edited, and the others in the page still; together they fit in it.
pub record AreMerged (bytes scratch last : List ℕ) (cells : List Entry) (merge : LeafMerge) : Type 0 where
  pub front : List Entry
  pub rest : List Entry
  pub after : List ℕ
  pub whole : cells ≡ front ++ rest
  pub sizes : HasSizes Leaf front
  pub spelled : scratch ≡ cells_bytes Leaf front
  pub count_is : merge.count ≡ length front
  pub passed : (key : List ℕ) → is_below last key ≡ true → AllBelow key front
  pub here : AreCellsAt Leaf bytes merge.at rest after
  pub left_is : merge.left ≡ length rest
  pub end_is : drop merge.end bytes ≡ after
  pub fits : FitsPage Leaf (length (cells_bytes Leaf cells))
