-- Changes that are made in a tree, as many as one leaf takes.
use Rattle.std.specs.Prelude.{◌≡◌, ℕ, false, Option, IsSome, Result, MatchResult, MatchOption, List, [], ◌∷◌, take}
use Rattle.pages.specs.declared.array.PageFault.{PageFault}
use Rattle.pages.specs.declared.array.PageFault.TheVariants.{Memory}
use Rattle.pages.specs.declared.array.Pages.{Ghosts}
use Rattle.pages.specs.State.{OnlyReads}
use Rattle.page_nodes.specs.declared.cell.NodeKind.TheVariants.{Leaf}
use Rattle.page_nodes.specs.declared.merge.LeafMerge.{LeafMerge}
use Rattle.page_nodes.specs.Map.{is_below, Entry, edited}
use Rattle.page_nodes.specs.Node.{IsNode}
use Rattle.page_nodes.specs.Merge.{AreMerged}
use Rattle.store.specs.Records.{Changes}
use Rattle.page_tree.specs.Forest.{no_trees, leaf, entries, IsUnder, IsSound, Represents}
use Rattle.page_tree.specs.Site.{Site, IsSubtree}
use Rattle.page_tree.specs.Puts.{AreInScratch}
use Rattle.page_tree.specs.Removal.{Becomes, Describes}
use Rattle.page_tree.specs.Bounds.{IsBound}
use Rattle.page_tree.specs.Calls.{Gives}
use Rattle.page_tree.specs.declared.bound.KeyBound.{KeyBound}
use Rattle.page_tree.specs.declared.changes.InLeaf.{InLeaf}
use Rattle.page_tree.specs.declared.changes.Merged.{Merged}
use Rattle.page_tree.specs.declared.changes.Changed.{Changed}

abbrev pub Change : Type 0
Change = List ℕ × Option (List ℕ)

-- the entries after these changes, the first of them first
abbrev pub edited_in_turn : Changes → List Entry → List Entry
edited_in_turn [] es = es
edited_in_turn (c ∷ cs) es = edited_in_turn cs (edited c.0 c.1 es)

-- the keys of these changes are from one on, and below another, if there is one
abbrev pub AreWithin : List ℕ → Option (List ℕ) → Changes → Type 0
AreWithin low high [] = Unit {0}
AreWithin low high (c ∷ cs) = (is_below c.0 low ≡ false) × IsUnder c.0 high × AreWithin low high cs

-- The first of these changes, so many, are made in the cells of a leaf, all within its bounds. Where none is, the first one puts a value.
pub record AreMerging (bytes scratch : List ℕ) (es : List Entry) (high : Option (List ℕ)) (first : Change) (changes : Changes) (made : ℕ) (merge : LeafMerge) : Type 0 where
  pub last : List ℕ
  pub merged : AreMerged bytes scratch last (edited_in_turn (take made changes) es) merge
  pub within : AreWithin first.0 high (take made changes)
  pub some : made ≡ 0 → IsSome first.1

-- the same, and scratch spells all cells
pub record AreChanged (scratch : List ℕ) (es : List Entry) (high : Option (List ℕ)) (first : Change) (changes : Changes) (made count : ℕ) : Type 0 where
  pub cells : AreInScratch Leaf (edited_in_turn (take made changes) es) scratch count
  pub within : AreWithin first.0 high (take made changes)
  pub some : made ≡ 0 → IsSome first.1

-- changes are made in the cells of a leaf, from the first one on, whose key belongs there
abbrev pub MergesChanges : (bytes before scratch : List ℕ) (bound : KeyBound) (changes : Changes) (merge : LeafMerge) (result : Result Merged PageFault) → Type 0
MergesChanges bytes before scratch bound changes merge result =
    (es : List Entry) (high : Option (List ℕ)) (first : Change) (rest : Changes) → changes ≡ first ∷ rest → IsBound bound high → IsUnder first.0 high
    → AreMerged bytes before [] es merge → MatchResult result (λ m. AreMerging bytes scratch es high first changes m.made m.merge) (λ f. f ≡ Memory)

-- changes are made in a leaf, and its cells copied to scratch
abbrev pub CopiesChanged : (bytes scratch : List ℕ) (bound : KeyBound) (changes : Changes) (result : Result InLeaf PageFault) → Type 0
CopiesChanged bytes scratch bound changes result =
    (es : List Entry) (high : Option (List ℕ)) (first : Change) (rest : Changes) → changes ≡ first ∷ rest → IsBound bound high → IsUnder first.0 high
    → IsNode Leaf [] es bytes → MatchResult result (λ m. AreChanged scratch es high first changes m.made m.count) (λ f. f ≡ Memory)

-- no page has changed, since the first change puts a value that finds no room in the leaf; or so many are made
abbrev pub MakesSome : {P : Type 0} (g : Ghosts P) (old new : P) (high : Option (List ℕ)) (first : Change) (changes : Changes) (IsMade : Changed → Type 0) (made : Option Changed) → Type 0
MakesSome g old new high first changes IsMade made =
    MatchOption made (OnlyReads (g.state old) (g.state new) × IsSome first.1) (λ c. AreWithin first.0 high (take c.made changes) × IsMade c)

-- changes are made in the leaf that a page in use holds
abbrev pub ChangesLeaf : {P : Type 0} (g : Ghosts P) (old new : P) (page : ℕ) (bytes separator : List ℕ) (bound : KeyBound) (changes : Changes)
    (result : Result (Option Changed) PageFault) → Type 0
ChangesLeaf g old new page bytes separator bound changes result =
    (g.state old).sound → IsSome ((g.state old).array page) → (es : List Entry) (d : ℕ) (low : List ℕ) (high : Option (List ℕ)) (first : Change) (rest : Changes)
    → changes ≡ first ∷ rest → IsBound bound high → IsUnder first.0 high → is_below first.0 low ≡ false → IsNode Leaf [] es bytes
    → IsSound (g.state old).array d high (leaf low page es no_trees)
    → Gives g old new result (λ made. MakesSome g old new high first changes
    (λ c. Becomes (g.state old) (g.state new) (leaf low page es no_trees) (edited_in_turn (take c.made changes) es)
    (λ f. Describes c.left (g.state new).array d low high page separator f)) made)

-- changes are made in a tree
abbrev pub ChangesBelow : {P : Type 0} (g : Ghosts P) (old new : P) (page levels : ℕ) (separator : List ℕ) (bound : KeyBound) (changes : Changes)
    (result : Result (Option Changed) PageFault) → Type 0
ChangesBelow g old new page levels separator bound changes result =
    (g.state old).sound → (s : Site) (first : Change) (rest : Changes) → changes ≡ first ∷ rest → IsSubtree (g.state old).array s page first.0 levels → IsBound bound s.high
    → Gives g old new result (λ made. MakesSome g old new s.high first changes
    (λ c. Becomes (g.state old) (g.state new) s.tree (edited_in_turn (take c.made changes) (entries s.tree))
    (λ f. Describes c.left (g.state new).array s.depth s.low s.high page separator f)) made)

-- the first of these changes, as many as are told, are made in the map
abbrev pub ChangesFirst : {P : Type 0} (g : Ghosts P) (old new : P) (changes : Changes) (result : Result ℕ PageFault) → Type 0
ChangesFirst g old new changes result =
    (g.state old).sound → (map : List Entry) → Represents map (g.state old).array
    → Gives g old new result (λ made. (g.state new).sound × Represents (edited_in_turn (take made changes) map) (g.state new).array)

-- the first of these changes, which puts a value, is made in the map
abbrev pub PutsFirst : {P : Type 0} (g : Ghosts P) (old new : P) (changes : Changes) (result : Result ℕ PageFault) → Type 0
PutsFirst g old new changes result =
    (g.state old).sound → (map : List Entry) → Represents map (g.state old).array → (first : Change) (rest : Changes) → changes ≡ first ∷ rest → IsSome first.1
    → Gives g old new result (λ made. (g.state new).sound × Represents (edited_in_turn (take made changes) map) (g.state new).array)
