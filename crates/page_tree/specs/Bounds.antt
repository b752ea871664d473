-- What bounds the keys of a leaf.
use Rattle.std.specs.Prelude.{◌≡◌, ℕ, Bool, true, false, Option, Some, None, List}
use Rattle.page_nodes.specs.Map.{Entry}
use Rattle.page_tree.specs.declared.bound.KeyBound.{KeyBound}

abbrev pub key_bound : Bool → List ℕ → Option (List ℕ)
key_bound true key = Some key
key_bound false key = None

-- a bound of keys is this one, or there is none
abbrev pub IsBound : KeyBound → Option (List ℕ) → Type 0
IsBound bound high = high ≡ key_bound bound.is_set bound.key.items

-- the bound below a cell, if there is one, or else the bound of all
abbrev pub bound_past : Option Entry → Option (List ℕ) → Option (List ℕ)
bound_past None high = high
bound_past (Some c) high = Some c.0
