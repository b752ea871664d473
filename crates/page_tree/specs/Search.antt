-- What a search finds.
use Rattle.std.specs.Prelude.{◌≡◌, ℕ, Bool, true, false, if◌then◌else◌, Option, Some, None, List, [], ◌∷◌}
use Rattle.page_nodes.specs.Map.{is_below, Entry, value_for}
use Rattle.page_nodes.specs.Node.{IsNode}
use Rattle.page_nodes.specs.declared.cell.NodeKind.TheVariants.{Leaf}
use Rattle.page_tree.specs.Forest.{Forest, entries}
use Rattle.page_tree.specs.declared.cursor.TreeCursor.{TreeCursor}

-- the key and the value that a cursor lends
abbrev pub key_of : TreeCursor → List ℕ
key_of cursor = cursor.key.items

abbrev pub value_of : TreeCursor → List ℕ
value_of cursor = cursor.value.items

-- whether there is a value, and if so the value
abbrev pub IsLookedUp : Option (List ℕ) → Bool → List ℕ → Type 0
IsLookedUp None found value = found ≡ false
IsLookedUp (Some there) found value = (found ≡ true) × (value ≡ there)

-- whether there is an entry, and if so its key and its value
abbrev pub IsFound : Option Entry → Bool → List ℕ → List ℕ → Type 0
IsFound None found key value = found ≡ false
IsFound (Some e) found key value = (found ≡ true) × (key ≡ e.0) × (value ≡ e.1)

-- the first entry after a key
abbrev pub first_after : List ℕ → List Entry → Option Entry
first_after key [] = None
first_after key (e ∷ es) = if is_below key e.0 then Some e else first_after key es

-- these bytes are a leaf that has the value of a key that the tree has
abbrev pub HasLeafOf : List ℕ → Forest → List ℕ → Type 0
HasLeafOf key tree bytes = (es : List Entry) × IsNode Leaf [] es bytes × (value_for key (entries tree) ≡ value_for key es)
