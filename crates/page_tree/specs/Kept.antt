-- What a cursor keeps of the leaf in which it found its entry.
use Rattle.std.specs.Prelude.{◌≡◌, ◌<◌, ℕ, Bool, true, false, List, [], ◌∷◌, ◌++◌, length}
use Rattle.page_nodes.specs.declared.cell.NodeKind.TheVariants.{Leaf}
use Rattle.page_nodes.specs.Map.{is_below, Entry, first_at}
use Rattle.page_nodes.specs.Search.{AreCellsAt}
use Rattle.page_tree.specs.Search.{key_of, value_of, IsFound}
use Rattle.page_tree.specs.declared.cursor.TreeCursor.{TreeCursor}

-- these cells of a leaf are left to a cursor
pub record AreLeft (cells : List Entry) (cursor : TreeCursor) : Type 0 where
  pub after : List ℕ
  pub spelled : AreCellsAt Leaf cursor.leaf.page cursor.leaf.at cells after
  pub count : cursor.leaf.left ≡ length cells

-- the last of these cells of a leaf is at an index
pub record IsLastAt (cells : List Entry) (at : ℕ) (cursor : TreeCursor) : Type 0 where
  pub front : List Entry
  pub last : Entry
  pub after : List ℕ
  pub cells_are : cells ≡ front ++ (last ∷ [])
  pub here : AreCellsAt Leaf cursor.leaf.page at (last ∷ []) after

-- a cursor took the first of these cells, if there is one, and the others are left
abbrev pub IsTakenFrom : List Entry → Bool → TreeCursor → Type 0
IsTakenFrom [] found cursor = (found ≡ false) × (cursor.leaf.left ≡ 0)
IsTakenFrom (c ∷ cs) found cursor = (found ≡ true) × (key_of cursor ≡ c.0) × (value_of cursor ≡ c.1) × AreLeft cs cursor

-- The cursor's entry is one of a map's, and the cells that are left are the entries right behind it.
pub record IsPlaced (map : List Entry) (cursor : TreeCursor) : Type 0 where
  pub front : List Entry
  pub cells : List Entry
  pub behind : List Entry
  pub map_is : map ≡ front ++ ((key_of cursor, value_of cursor) ∷ (cells ++ behind))
  pub left : AreLeft cells cursor

-- a cursor to which cells are left has its place in a map
abbrev pub KeepsPlace : List Entry → TreeCursor → Type 0
KeepsPlace map cursor = 0 < cursor.leaf.left → IsPlaced map cursor

-- a cursor's entry comes before a key, and the one that comes next in its leaf does not
pub record TellsNext (key : List ℕ) (cursor : TreeCursor) : Type 0 where
  pub cell : Entry
  pub cells : List Entry
  pub left : AreLeft (cell ∷ cells) cursor
  pub before : is_below (key_of cursor) key ≡ true
  pub reaches : is_below cell.0 key ≡ false

-- a cursor has the first entry of a map at or after a key, if there is one, and keeps its place
abbrev pub IsFoundIn : List Entry → List ℕ → Bool → TreeCursor → Type 0
IsFoundIn map key found cursor = IsFound (first_at key map) found (key_of cursor) (value_of cursor) × KeepsPlace map cursor
