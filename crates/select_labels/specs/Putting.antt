-- What is known of labels while they are found.
use Rattle.std.specs.Prelude.{◌≡◌, Bool, true, false, List, [], ◌∷◌, ◌++◌, Option, Some, None}
use Rattle.select_labels.specs.Labels.{TheLabel}

-- what is found of an item is put behind what was found of others, unless an AS is misplaced
abbrev pub PutsLabel : Bool → Option (Option TheLabel) → List (Option TheLabel) → List (Option TheLabel) → Type 0
PutsLabel true found old new = (l : Option TheLabel) × (found ≡ Some l) × (new ≡ old ++ l ∷ [])
PutsLabel false found old new = found ≡ None

abbrev pub labels_behind : List (Option TheLabel) → Option (List (Option TheLabel)) → Option (List (Option TheLabel))
labels_behind ls None = None
labels_behind ls (Some ms) = Some (ls ++ ms)
