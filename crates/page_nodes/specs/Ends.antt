-- The first and the last key of entries.
use Rattle.std.specs.Prelude.{◌≡◌, ℕ, Option, Some, None, List, [], ◌∷◌}
use Rattle.page_nodes.specs.declared.page.EndKeys.{EndKeys}
use Rattle.page_nodes.specs.Map.{Entry}

-- the key of the last of these entries, or this key where there is none
abbrev pub last_key : List ℕ → List Entry → List ℕ
last_key key [] = key
last_key key (e ∷ es) = last_key e.0 es

-- entries begin and end with these keys
abbrev pub BeginAndEnd : List Entry → List ℕ → List ℕ → Type 0
BeginAndEnd [] first last = ⊥
BeginAndEnd (e ∷ es) first last = (first ≡ e.0) × (last ≡ last_key e.0 es)

-- these are their first and their last key, if there are entries
abbrev pub AreEnds : List Entry → Option EndKeys → Type 0
AreEnds es None = es ≡ []
AreEnds es (Some ends) = BeginAndEnd es ends.first.now ends.last.now
