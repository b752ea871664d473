-- What a walk over a map has ahead, and what it has found.
use Rattle.std.specs.Prelude.{◌≡◌, ◌<◌, ◌-◌, ℕ, Bool, true, false, Option, Some, None, Result, List, [], ◌∷◌, ◌++◌, take, drop}
use Rattle.pages.specs.declared.array.PageFault.{PageFault}
use Rattle.pages.specs.declared.array.Pages.{Ghosts}
use Rattle.page_nodes.specs.Map.{Entry, rest_entries}
use Rattle.page_tree.specs.Forest.{Represents}
use Rattle.page_tree.specs.Search.{key_of, value_of}
use Rattle.page_tree.specs.Kept.{AreLeft}
use Rattle.page_tree.specs.Calls.{Gives}
use Rattle.page_tree.specs.declared.cursor.TreeCursor.{TreeCursor}
use Rattle.page_tree.specs.declared.leaf.CellParts.{CellParts}
use Rattle.page_tree.specs.declared.tree_walk.TreeWalk.{TreeWalk}

-- these entries of a map are the cells that are left of the walk's leaf, and those behind them
pub record AreInLeaf (map : List Entry) (walk : TreeWalk) (entries : List Entry) : Type 0 where
  pub front : List Entry
  pub cells : List Entry
  pub behind : List Entry
  pub map_is : map ≡ front ++ entries
  pub entries_are : entries ≡ cells ++ behind
  pub left : AreLeft cells walk.cursor

-- these entries of a map are ahead of a walk: those from its leaf on, or where no cell of it is left those from its key on
pub record HasAhead (map : List Entry) (walk : TreeWalk) (entries : List Entry) : Type 0 where
  pub in_leaf : 0 < walk.cursor.leaf.left → AreInLeaf map walk entries
  pub at_key : walk.cursor.leaf.left ≡ 0 → entries ≡ rest_entries walk.next.items map

-- the bytes of a page from one index up to another
abbrev pub part_of : List ℕ → ℕ → ℕ → List ℕ
part_of page at end = take (end - at) (drop at page)

-- an entry was found: the first one in a leaf, which the cursor has, or a cell of the leaf
abbrev pub IsFoundAt : Option CellParts → TreeCursor → Entry → Type 0
IsFoundAt None cursor entry = (key_of cursor ≡ entry.0) × (value_of cursor ≡ entry.1)
IsFoundAt (Some cell) cursor entry = (part_of cursor.leaf.page cell.key_at cell.value_at ≡ entry.0) × (part_of cursor.leaf.page cell.value_at cell.end ≡ entry.1)

-- a walk has found this entry
abbrev pub IsFoundBy : TreeWalk → Entry → Type 0
IsFoundBy walk entry = IsFoundAt walk.found walk.cursor entry

-- a walk went on over these entries of a map: it found the first of them, and the others are ahead; or there was none
abbrev pub IsStepped : List Entry → Bool → TreeWalk → List Entry → Type 0
IsStepped map true walk entries = (e : Entry) × (later : List Entry) × (entries ≡ e ∷ later) × IsFoundBy walk e × HasAhead map walk later
IsStepped map false walk entries = entries ≡ []

-- a walk went on to the next cell of its leaf, or these entries are those from its key on
abbrev pub IsSteppedInLeaf : List Entry → Bool → TreeWalk → List Entry → Type 0
IsSteppedInLeaf map true walk entries = IsStepped map true walk entries
IsSteppedInLeaf map false walk entries = entries ≡ rest_entries walk.next.items map

-- a walk goes on in a map that the pages represent
abbrev pub GoesOn : {P : Type 0} (g : Ghosts P) (old new : P) (before walk : TreeWalk) (result : Result Bool PageFault) → Type 0
GoesOn g old new before walk result =
    (g.state old).sound → (map : List Entry) → Represents map (g.state old).array
    → Gives g old new result (λ found. (entries : List Entry) → HasAhead map before entries → IsStepped map found walk entries)
