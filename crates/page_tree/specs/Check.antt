-- What the check of a whole tree finds, by its answer.
use Rattle.std.specs.Prelude.{◌≡◌, ℕ, ◌<◌, ◌⊎◌, ◌↔◌, Bool, true, false, Option, Some, None, Result, IsSome, List, [], ◌∷◌, length, get_or}
use Rattle.storage_sizes.specs.Sizes.{max_pages}
use Rattle.pages.specs.State.{Array}
use Rattle.pages.specs.declared.array.PageFault.{PageFault}
use Rattle.pages.specs.declared.array.Pages.{Ghosts}
use Rattle.page_nodes.specs.declared.cell.NodeKind.TheVariants.{Leaf, Inner}
use Rattle.page_nodes.specs.Map.{Entry, IsRising}
use Rattle.page_nodes.specs.Node.{four_bytes, IsNode, IsWhole}
use Rattle.page_tree.specs.Forest.{Forest, cells, Meets, AllFrom, AllUnder, IsSound, IsFull, Represents}
use Rattle.page_tree.specs.Calls.{LeavesPages, Gives}

-- calls that write nothing, and leave the pages as they are
pub record OnlyReadsBelow {P : Type 0} (g : Ghosts P) (old new : P) : Type 0 where
  pub preserved : g.preserved old new
  pub nothing : g.writes_nothing old new
  pub leaves : LeavesPages g old new

-- a page is marked as met
abbrev pub IsMet : List Bool → ℕ → Type 0
IsMet met page = get_or met page false ≡ true

-- a page that was not met is marked, and no other; or it was met before, or has no number of 16 bits
abbrev pub MarksPage : ℕ → Bool → List Bool → List Bool → Type 0
MarksPage page true old new = (IsMet old page → ⊥) × ((q : ℕ) → IsMet new q ↔ ((q ≡ page) ⊎ IsMet old q))
MarksPage page false old new = page < max_pages → IsMet old page

-- these are the bytes of a page, or it is not in use
abbrev pub IsReadIfUsed : Option (List ℕ) → List ℕ → Bool → Type 0
IsReadIfUsed there bytes true = there ≡ Some bytes
IsReadIfUsed there bytes false = there ≡ None

abbrev pub ReadsIfUsed : {P : Type 0} (g : Ghosts P) (old new : P) (page : ℕ) (bytes : List ℕ) (result : Result Bool PageFault) → Type 0
ReadsIfUsed g old new page bytes result = (g.state old).sound → Gives g old new result (IsReadIfUsed ((g.state old).array page) bytes)

-- the depth of each tree under a page that has not too many levels
abbrev pub IsDepthUnder : Array → ℕ → ℕ → Option ℕ → Type 0
IsDepthUnder array page levels depth = (tree : Forest) (d : ℕ) (high : Option (List ℕ)) (low : List ℕ)
    → IsSound array d high tree → cells tree ≡ (low, four_bytes page) ∷ [] → d < levels → depth ≡ Some d

abbrev pub MeasuresDepth : {P : Type 0} (g : Ghosts P) (old new : P) (page levels : ℕ) (result : Result (Option ℕ) PageFault) → Type 0
MeasuresDepth g old new page levels result = (g.state old).sound → Gives g old new result (IsDepthUnder (g.state old).array page levels)

-- there are entries, and all of their keys are between these bounds
abbrev pub AreBetween : List ℕ → Option (List ℕ) → List Entry → Bool → Type 0
AreBetween low high es true = AllFrom low es × AllUnder high es × (0 < length es)
AreBetween low high es false = AllFrom low es → AllUnder high es → 0 < length es → ⊥

-- whether these bytes are a leaf with entries between these bounds
abbrev pub IsLeafBetween : List ℕ → List ℕ → Option (List ℕ) → Bool → Type 0
IsLeafBetween bytes low high true = (leaf : IsWhole bytes Leaf) × AreBetween low high leaf.cells true
IsLeafBetween bytes low high false = (es : List Entry) → IsNode Leaf [] es bytes → IsRising es → AreBetween low high es false

-- whether a page is in use, and is such a leaf
abbrev pub IsLeafChecked : Option (List ℕ) → List ℕ → Option (List ℕ) → Bool → Type 0
IsLeafChecked there low high true = (bytes : List ℕ) × (there ≡ Some bytes) × IsLeafBetween bytes low high true
IsLeafChecked there low high false = (bytes : List ℕ) → there ≡ Some bytes → IsLeafBetween bytes low high false

abbrev pub ChecksLeaf : {P : Type 0} (g : Ghosts P) (old new : P) (page : ℕ) (low : List ℕ) (high : Option (List ℕ)) (result : Result Bool PageFault) → Type 0
ChecksLeaf g old new page low high result = (g.state old).sound → Gives g old new result (IsLeafChecked ((g.state old).array page) low high)

-- trees that an array holds, with these cells and bounds, of which no page is marked
pub record AreUnmet (array : Array) (met : List Bool) (depth : ℕ) (high : Option (List ℕ)) (top : List Entry) (trees : Forest) : Type 0 where
  pub sound : IsSound array depth high trees
  pub top_is : cells trees ≡ top
  pub unmet : (q : ℕ) → Meets q trees → IsMet met q → ⊥

-- such trees, the pages of which, and no others, become marked
pub record AreMarked (array : Array) (old new : List Bool) (depth : ℕ) (high : Option (List ℕ)) (top : List Entry) (trees : Forest) : Type 0 where
  pub were_unmet : AreUnmet array old depth high top trees
  pub marks : (q : ℕ) → IsMet new q ↔ (Meets q trees ⊎ IsMet old q)

-- whether an array holds such trees, without an empty leaf
abbrev pub AreChecked : Array → List Bool → List Bool → ℕ → Option (List ℕ) → List Entry → Bool → Type 0
AreChecked array old new depth high top true = (f : Forest) × AreMarked array old new depth high top f × IsFull f
AreChecked array old new depth high top false = (f : Forest) → AreUnmet array old depth high top f → IsFull f → ⊥

-- the tree under a page is checked
abbrev pub ChecksTree : {P : Type 0} (g : Ghosts P) (old new : P) (met marked : List Bool) (page depth : ℕ) (low : List ℕ) (high : Option (List ℕ))
    (result : Result Bool PageFault) → Type 0
ChecksTree g old new met marked page depth low high result =
    (g.state old).sound → Gives g old new result (AreChecked (g.state old).array met marked depth high ((low, four_bytes page) ∷ []))

-- the trees under the children of an inner node are checked
abbrev pub ChecksChildren : {P : Type 0} (g : Ghosts P) (old new : P) (met marked : List Bool) (bytes : List ℕ) (depth : ℕ) (low : List ℕ)
    (high : Option (List ℕ)) (result : Result Bool PageFault) → Type 0
ChecksChildren g old new met marked bytes depth low high result =
    (g.state old).sound → (first : List ℕ) (cs : List Entry) → IsNode Inner first cs bytes
    → Gives g old new result (AreChecked (g.state old).array met marked depth high ((low, first) ∷ cs))

-- the root is checked as a leaf, which may be empty
abbrev pub IsLeafAlone : Array → List Bool → List Bool → Bool → Type 0
IsLeafAlone array old new true = (f : Forest) × AreMarked array old new 0 None (([], four_bytes 0) ∷ []) f
IsLeafAlone array old new false = (f : Forest) → AreUnmet array old 0 None (([], four_bytes 0) ∷ []) f → ⊥

abbrev pub ChecksLeafAlone : {P : Type 0} (g : Ghosts P) (old new : P) (met marked : List Bool) (result : Result Bool PageFault) → Type 0
ChecksLeafAlone g old new met marked result = (g.state old).sound → Gives g old new result (IsLeafAlone (g.state old).array met marked)

-- whether there is a tree of this depth, with no empty leaf but a lone one
abbrev pub IsRootChecked : Array → List Bool → List Bool → ℕ → Bool → Type 0
IsRootChecked array old new depth true = (f : Forest) × AreMarked array old new depth None (([], four_bytes 0) ∷ []) f × (IsFull f ⊎ (depth ≡ 0))
IsRootChecked array old new depth false = (f : Forest) → AreUnmet array old depth None (([], four_bytes 0) ∷ []) f → IsFull f ⊎ (depth ≡ 0) → ⊥

abbrev pub ChecksRoot : {P : Type 0} (g : Ghosts P) (old new : P) (met marked : List Bool) (depth : ℕ) (result : Result Bool PageFault) → Type 0
ChecksRoot g old new met marked depth result = (g.state old).sound → Gives g old new result (IsRootChecked (g.state old).array met marked depth)

-- marks for so many pages, none of which is met
pub record AreNoMarks (count : ℕ) (met : List Bool) : Type 0 where
  pub count_is : length met ≡ count
  pub none : (page : ℕ) → IsMet met page → ⊥

-- each page in use is marked
abbrev pub HasMetAll : Array → List Bool → Type 0
HasMetAll array met = (l : ℕ) → l < max_pages → IsSome (array l) → IsMet met l

-- whether the array represents a map
abbrev pub IsChecked : Array → Bool → Type 0
IsChecked array true = (map : List Entry) × Represents map array
IsChecked array false = (map : List Entry) → Represents map array → ⊥

abbrev pub ChecksMap : {P : Type 0} (g : Ghosts P) (old new : P) (result : Result Bool PageFault) → Type 0
ChecksMap g old new result = (g.state old).sound → Gives g old new result (IsChecked (g.state old).array)
