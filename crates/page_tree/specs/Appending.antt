-- Changes that are made in a new leaf behind another one.
use Rattle.std.specs.Prelude.{◌≡◌, ◌<◌, ℕ, Option, Some, IsSome, Result, List, ◌∷◌, length}
use Rattle.pages.specs.declared.array.PageFault.{PageFault}
use Rattle.pages.specs.declared.array.Pages.{Ghosts}
use Rattle.page_nodes.specs.Map.{Entry}
use Rattle.page_tree.specs.Forest.{AllUnder}
use Rattle.page_tree.specs.Changed.{Change, ChangesLeaf}
use Rattle.page_tree.specs.declared.bound.KeyBound.{KeyBound}
use Rattle.page_tree.specs.declared.changes.Changed.{Changed}
use Rattle.store.specs.Records.{Changes}

-- there are entries, and a key comes after all of them
abbrev pub ComesLast : List ℕ → List Entry → Type 0
ComesLast key es = (0 < length es) × AllUnder (Some key) es

-- changes of which the first puts a value are made in the leaf that a page in use holds
abbrev pub AppendsToLeaf : {P : Type 0} (g : Ghosts P) (old new : P) (page : ℕ) (bytes separator : List ℕ) (bound : KeyBound) (changes : Changes)
    (result : Result (Option Changed) PageFault) → Type 0
AppendsToLeaf g old new page bytes separator bound changes result =
    ((first : Change) (rest : Changes) → changes ≡ first ∷ rest → IsSome first.1) → ChangesLeaf g old new page bytes separator bound changes result
