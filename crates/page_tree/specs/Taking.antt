-- How many logical pages get a page of their own in a call.
use Rattle.std.specs.Prelude.{◌≡◌, ◌≤◌, ◌+◌, ◌-◌, ◌*◌, ◌<◌, ◌⊎◌, ℕ, suc, Option, Some, None, Result, MatchResult, IfErr, List, [], ◌∷◌, ◌++◌, length}
use Rattle.pages.specs.declared.array.PageFault.{PageFault}
use Rattle.pages.specs.declared.array.PageFault.TheVariants.{Full}
use Rattle.pages.specs.declared.array.Pages.{Ghosts}
use Rattle.pages.specs.State.{GetOwn, HasNoOwn}
use Rattle.page_nodes.specs.Map.{Entry}
use Rattle.page_tree.specs.Forest.{Represents}
use Rattle.page_tree.specs.Site.{Site, IsSubtree}
use Rattle.store.specs.Records.{Changes}
use Rattle.page_tree.specs.Bounds.{IsBound}
use Rattle.page_tree.specs.declared.bound.KeyBound.{KeyBound}
use Rattle.page_tree.specs.declared.changes.Changed.{Changed}
use Rattle.page_tree.specs.declared.removal.Underflow.{Underflow}
use Rattle.page_tree.specs.declared.removal.Underflow.TheVariants.{Nothing, Child, Trees, FewCells}

-- of all logical pages these alone, and so many others at most, get a page of their own
pub record TakesPages {P : Type 0} (g : Ghosts P) (old new : P) (pages : List ℕ) (most : ℕ) : Type 0 where
  pub others : List ℕ
  pub few : length others ≤ most
  pub only : GetOwn (pages ++ others) (g.own old) (g.own new)

-- a call that gives a value takes so many pages at most, and one that finds none left took so many before
abbrev pub TakesAtMost : {P T : Type 0} (g : Ghosts P) (old new : P) (result : Result T PageFault) (most : T → ℕ) (before : ℕ) → Type 0
TakesAtMost g old new result most before =
    MatchResult result (λ x. TakesPages g old new [] (most x)) (λ f. f ≡ Full → TakesPages g old new [] before)

-- a second page was taken, or none
abbrev pub count_made : Option ℕ → ℕ
count_made None = 0
count_made (Some made) = 1

-- what is put into a tree of this depth takes its page and perhaps one beside it, and two pages for each level below
abbrev pub TakesToPut : {P : Type 0} (g : Ghosts P) (old new : P) (page depth : ℕ) (result : Result (Option ℕ) PageFault) → Type 0
TakesToPut g old new page depth result =
    MatchResult result (λ made. TakesPages g old new (page ∷ []) (2 * depth + count_made made)) (λ f. f ≡ Full → TakesPages g old new [] (2 * depth + 1))

-- the same of a tree that stands there
abbrev pub TakesToPutBelow : {P : Type 0} (g : Ghosts P) (old new : P) (page levels : ℕ) (key : List ℕ) (result : Result (Option ℕ) PageFault) → Type 0
TakesToPutBelow g old new page levels key result =
    (g.state old).sound → (s : Site) → IsSubtree (g.state old).array s page key levels → TakesToPut g old new page s.depth result

-- a root that finds no page left took none before, or one, and then page 0 has none of its own
abbrev pub TakesToGrow : {P : Type 0} (g : Ghosts P) (old new : P) (result : Result (Unit {0}) PageFault) → Type 0
TakesToGrow g old new result =
    IfErr result (λ f. f ≡ Full → TakesPages g old new [] 0 ⊎ (TakesPages g old new [] 1 × HasNoOwn 0 (g.own new)))

-- a change that finds no page left took two before for each level of the tree, at most
abbrev pub TakesToChange : {P T : Type 0} (g : Ghosts P) (old new : P) (result : Result T PageFault) → Type 0
TakesToChange g old new result =
    (g.state old).sound → (map : List Entry) → (represents : Represents map (g.state old).array)
    → IfErr result (λ f. f ≡ Full → TakesPages g old new [] (2 * (represents.is_tree.depth + 1)))

-- how many pages are taken at most until this is left of a tree of this depth
abbrev pub most_left : ℕ → Underflow → ℕ
most_left depth Nothing = 2 * depth
most_left depth (Child child) = 2 * depth - 2
most_left depth (Trees made) = 2 * depth + 1
most_left depth FewCells = 2 * depth + 1

-- how many an inner node takes that writes what is left of it
abbrev pub most_stored : Underflow → ℕ
most_stored (Trees made) = 2
most_stored left = 0

-- and one that puts the one child of its child under the neighbour first
abbrev pub most_merged : Underflow → ℕ
most_merged (Trees made) = 5
most_merged left = 2

-- an inner node follows its child, of which this is left, with the pages that were taken for it since an earlier state
abbrev pub TakesToFollow : {P : Type 0} (g : Ghosts P) (old new : P) (underflow : Underflow) (result : Result Underflow PageFault) → Type 0
TakesToFollow {P} g old new underflow result =
    (before : P) (depth : ℕ) → ((child : ℕ) → underflow ≡ Child child → 0 < depth) → TakesPages g before old [] (most_left depth underflow)
    → TakesAtMost g before new result (λ left. most_left (suc depth) left) (2 * suc depth + 2)

-- changes that are made in a tree take what its leaf takes, and none where none is made
abbrev pub most_changed : ℕ → Option Changed → ℕ
most_changed depth None = 0
most_changed depth (Some c) = most_left depth c.left

-- changes are made in a tree that stands there
abbrev pub TakesToChangeBelow : {P : Type 0} (g : Ghosts P) (old new : P) (page levels : ℕ) (bound : KeyBound) (changes : Changes)
    (result : Result (Option Changed) PageFault) → Type 0
TakesToChangeBelow g old new page levels bound changes result =
    (g.state old).sound → (s : Site) (first : List ℕ × Option (List ℕ)) (rest : Changes) → changes ≡ first ∷ rest → IsSubtree (g.state old).array s page first.0 levels → IsBound bound s.high
    → TakesAtMost g old new result (λ c. most_changed s.depth c) (2 * s.depth + 2)

-- the root becomes one tree, with the pages that were taken for it since an earlier state
abbrev pub TakesToSettle : {P : Type 0} (g : Ghosts P) (old new : P) (left : Underflow) (result : Result (Unit {0}) PageFault) → Type 0
TakesToSettle {P} g old new left result =
    (before : P) (depth : ℕ) → TakesPages g before old [] (most_left depth left)
    → IfErr result (λ f. f ≡ Full → TakesPages g before new [] (2 * (depth + 1)))
