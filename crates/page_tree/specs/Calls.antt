-- The outcome of calls on a tree, where the pages are sound: what a call that succeeds promises of its value, and that a call that fails has a cause.
use Rattle.std.specs.Prelude.{◌≡◌, ◌≢◌, ℕ, suc, ◌⊎◌, Bool, true, Option, None, Result, MatchResult, IsSome, is_some, List, [], ◌∷◌, length, ◌<◌, IfOk, IfSome, Some}
use Rattle.pages.specs.declared.array.PageFault.{PageFault}
use Rattle.pages.specs.declared.array.PageFault.TheVariants.{Memory, Malformed}
use Rattle.pages.specs.declared.array.Pages.{Ghosts}
use Rattle.pages.specs.State.{OnlyReads}
use Rattle.page_nodes.specs.declared.cell.NodeKind.{NodeKind}
use Rattle.page_nodes.specs.declared.cell.NodeKind.TheVariants.{Leaf, Inner}
use Rattle.page_nodes.specs.declared.scratch.Edit.{Edit}
use Rattle.page_tree.specs.declared.cuts.SplitPoint.{SplitPoint}
use Rattle.page_tree.specs.declared.cuts.SplitPoint.TheVariants.{End}
use Rattle.page_nodes.specs.Scratch.{EndFits}
use Rattle.page_nodes.specs.Map.{Entry, value_for, first_at, with_entry, IsRising}
use Rattle.page_nodes.specs.Node.{four_bytes, cells_bytes, IsNode, HasSizes}
use Rattle.page_tree.specs.Forest.{Forest, cells, entries, AllUnder, MeetsAll, Holds, IsSound, IsFull, Represents}
use Rattle.page_tree.specs.Site.{Site, IsSubtree}
use Rattle.page_tree.specs.Search.{IsLookedUp, IsFound, HasLeafOf, key_of, value_of}
use Rattle.page_tree.specs.Kept.{AreLeft, IsTakenFrom, KeepsPlace, IsFoundIn}
use Rattle.page_tree.specs.Puts.{AreInScratch, IsTaken, AreStored, IsCutAtEnd, IsPutBelow}
use Rattle.page_tree.specs.declared.cursor.TreeCursor.{TreeCursor}

-- a fault is one that the pages gave, or a failed allocation; no page is found malformed
pub record IsCaused (failed_with : PageFault → Type 0) (fault : PageFault) : Type 0 where
  pub well_formed : fault ≢ Malformed
  pub cause : (fault ≡ Memory) ⊎ failed_with fault

-- the value is as promised, or the fault has a cause
abbrev pub Gives : {P T : Type 0} (g : Ghosts P) (old new : P) (result : Result T PageFault) (IsPromised : T → Type 0) → Type 0
Gives g old new result IsPromised = MatchResult result IsPromised (λ f. IsCaused (λ x. g.failed_with old new x) f)

-- no page changes, whatever the result is
abbrev pub LeavesPages : {P : Type 0} (g : Ghosts P) (old new : P) → Type 0
LeavesPages g old new = (g.state old).sound → OnlyReads (g.state old) (g.state new)

-- the value of a key is looked up in the map
abbrev pub Gets : {P : Type 0} (g : Ghosts P) (old new : P) (key value : List ℕ) (result : Result Bool PageFault) → Type 0
Gets g old new key value result =
    (g.state old).sound → (map : List Entry) → Represents map (g.state old).array
    → Gives g old new result (λ found. IsLookedUp (value_for key map) found value)

-- whether the map has the key
abbrev pub Contains : {P : Type 0} (g : Ghosts P) (old new : P) (key : List ℕ) (result : Result Bool PageFault) → Type 0
Contains g old new key result =
    (g.state old).sound → (map : List Entry) → Represents map (g.state old).array → Gives g old new result (λ found. found ≡ is_some (value_for key map))

-- an entry of the map is found, which the cursor lends
abbrev pub Finds : {P : Type 0} (g : Ghosts P) (old new : P) (entry_in : List Entry → Option Entry) (cursor : TreeCursor) (result : Result Bool PageFault)
    → Type 0
Finds g old new entry_in cursor result =
    (g.state old).sound → (map : List Entry) → Represents map (g.state old).array
    → Gives g old new result (λ found. IsFound (entry_in map) found (key_of cursor) (value_of cursor))

-- the cursor keeps a place in the map, if it keeps one
abbrev pub LeavesPlace : {P : Type 0} (g : Ghosts P) (old : P) (cursor : TreeCursor) → Type 0
LeavesPlace g old cursor = (g.state old).sound → (map : List Entry) → Represents map (g.state old).array → KeepsPlace map cursor

-- an entry of the map is found from a place in it on, and a place in it is kept, whatever the result is
abbrev pub FindsOn : {P : Type 0} (g : Ghosts P) (old new : P) (entry_in : List Entry → Option Entry) (before cursor : TreeCursor) (result : Result Bool PageFault)
    → Type 0
FindsOn g old new entry_in before cursor result =
    (g.state old).sound → (map : List Entry) → Represents map (g.state old).array → KeepsPlace map before
    → Gives g old new result (λ found. IsFound (entry_in map) found (key_of cursor) (value_of cursor)) × KeepsPlace map cursor

-- the map is edited
abbrev pub Changes : {P : Type 0} (g : Ghosts P) (old new : P) (edit : List Entry → List Entry) (result : Result (Unit {0}) PageFault) → Type 0
Changes g old new edit result =
    (g.state old).sound → (map : List Entry) → Represents map (g.state old).array
    → Gives g old new result (λ _. (g.state new).sound × Represents (edit map) (g.state new).array)

-- the node that a page holds is read
abbrev pub ReadsNode : {P : Type 0} (g : Ghosts P) (old new : P) (page : ℕ) (bytes : List ℕ) (result : Result NodeKind PageFault) → Type 0
ReadsNode g old new page bytes result =
    (g.state old).sound → (kind : NodeKind) (first : List ℕ) (cs : List Entry) → Holds (g.state old).array page kind first cs
    → Gives g old new result (λ k. (k ≡ kind) × IsNode kind first cs bytes)

-- the leaf of a key is read
abbrev pub FindsLeaf : {P : Type 0} (g : Ghosts P) (old new : P) (page levels : ℕ) (key bytes : List ℕ) (result : Result (Unit {0}) PageFault) → Type 0
FindsLeaf g old new page levels key bytes result =
    (g.state old).sound → (s : Site) → IsSubtree (g.state old).array s page key levels
    → Gives g old new result (λ _. HasLeafOf key s.tree bytes)

-- the first of the cells that are left to a cursor goes to it
abbrev pub TakesNext : (before cursor : TreeCursor) (result : Result Bool PageFault) → Type 0
TakesNext before cursor result =
    (cells : List Entry) → AreLeft cells before → MatchResult result (λ found. IsTakenFrom cells found cursor) (λ f. (f ≡ Memory) × (cursor.leaf.left ≡ 0))

-- the first entry of a leaf at or after a key goes to the cursor, which keeps its place
abbrev pub TakesEntry : (bytes key : List ℕ) (cursor : TreeCursor) (result : Result Bool PageFault) → Type 0
TakesEntry bytes key cursor result =
    (es : List Entry) → IsNode Leaf [] es bytes → MatchResult result (λ found. IsFoundIn es key found cursor) (λ f. f ≡ Memory)

-- a cursor goes on to the first entry of its map at or after a key, or stays as it was, or memory is refused
abbrev pub Steps : (key : List ℕ) (before cursor : TreeCursor) (result : Result Bool PageFault) → Type 0
Steps key before cursor result =
    (map : List Entry) → IsRising map → KeepsPlace map before
    → MatchResult result (λ found. found ≡ true → IsFound (first_at key map) true (key_of cursor) (value_of cursor)) (λ f. f ≡ Memory) × KeepsPlace map cursor

-- the first entry of a tree is found, and a place is kept
abbrev pub FindsLeast : {P : Type 0} (g : Ghosts P) (old new : P) (page levels : ℕ) (cursor : TreeCursor) (result : Result Bool PageFault) → Type 0
FindsLeast g old new page levels cursor result =
    (g.state old).sound → (s : Site) (key : List ℕ) → IsSubtree (g.state old).array s page key levels
    → Gives g old new result (λ found. (IsFull s.tree → IsFound (first_at [] (entries s.tree)) found (key_of cursor) (value_of cursor)) × KeepsPlace (entries s.tree) cursor)

-- the first entry of a tree at or after a key is found, and a place is kept
abbrev pub FindsBelow : {P : Type 0} (g : Ghosts P) (old new : P) (page levels : ℕ) (key : List ℕ) (cursor : TreeCursor) (result : Result Bool PageFault)
    → Type 0
FindsBelow g old new page levels key cursor result =
    (g.state old).sound → (s : Site) → IsSubtree (g.state old).array s page key levels
    → Gives g old new result (λ found. IsFoundIn (entries s.tree) key found cursor)

-- the edited cells of a node are copied to scratch
abbrev pub CopiesCells : (kind : NodeKind) (bytes : List ℕ) (edit : List Entry → List Entry) (scratch : List ℕ) (result : Result ℕ PageFault) → Type 0
CopiesCells kind bytes edit scratch result =
    (first : List ℕ) (cs : List Entry) → IsNode kind first cs bytes
    → MatchResult result (λ count. AreInScratch kind (edit cs) scratch count) (λ f. f ≡ Memory)

-- the cells of a node with this payload at a key are copied to scratch
abbrev pub PutsCell : (kind : NodeKind) (bytes key payload scratch : List ℕ) (result : Result Edit PageFault) → Type 0
PutsCell kind bytes key payload scratch result =
    (first : List ℕ) (cs : List Entry) → IsNode kind first cs bytes
    → MatchResult result (λ edit. AreInScratch kind (with_entry key payload cs) scratch edit.count) (λ f. f ≡ Memory)

-- a new page gets the node that has the cells after a cut
abbrev pub TakesSecond : {P : Type 0} (g : Ghosts P) (old new : P) (kind : NodeKind) (cells : List ℕ) (count : ℕ) (separator : List ℕ)
    (result : Result ℕ PageFault) → Type 0
TakesSecond g old new kind cells count separator result =
    (g.state old).sound → (c : Entry) (cs : List Entry) → HasSizes kind (c ∷ cs) → cells ≡ cells_bytes kind (c ∷ cs) → count ≡ suc (length cs)
    → Gives g old new result (λ page. IsTaken kind c cs separator page (g.state old) (g.state new))

-- a page in use gets the node that has the cells in scratch, or that page and a new one get its two parts
abbrev pub StoresCells : {P : Type 0} (g : Ghosts P) (old new : P) (page : ℕ) (kind : NodeKind) (first scratch : List ℕ) (count : ℕ) (separator : List ℕ)
    (result : Result (Option ℕ) PageFault) → Type 0
StoresCells g old new page kind first scratch count separator result =
    (g.state old).sound → IsSome ((g.state old).array page) → (cs : List Entry) → AreInScratch kind cs scratch count
    → Gives g old new result (λ made. (g.state new).sound × AreStored kind first cs page made separator (g.state old).array (g.state new).array)

-- cells that are to be cut at their end, and that fit in a page without the last ones, are cut there if they exceed the page
abbrev pub CutsAtEnd : {P : Type 0} (g : Ghosts P) (old new : P) (page : ℕ) (kind : NodeKind) (first scratch : List ℕ) (count : ℕ) (place : SplitPoint)
    (result : Result (Option ℕ) PageFault) → Type 0
CutsAtEnd g old new page kind first scratch count place result =
    place ≡ End → (g.state old).sound → IsSome ((g.state old).array page) → (cs : List Entry) → AreInScratch kind cs scratch count → (fits : EndFits kind cs)
    → IfOk result (λ made. IfSome made (λ there. IsCutAtEnd (g.state new).array page there kind first fits))

-- an entry whose key comes after those of a leaf, and that does not fit in it, gets a new leaf, and the leaf stays as it was
abbrev pub StoresAfter : {P : Type 0} (g : Ghosts P) (old new : P) (page : ℕ) (bytes key value : List ℕ) (result : Result (Option ℕ) PageFault) → Type 0
StoresAfter g old new page bytes key value result =
    (g.state old).sound → IsSome ((g.state old).array page) → (es : List Entry) → IsNode Leaf [] es bytes → 0 < length es → AllUnder (Some key) es
    → IfOk result (λ made. IfSome made (λ there. Holds (g.state new).array page Leaf [] es × Holds (g.state new).array there Leaf [] ((key, value) ∷ [])))

-- an entry is put into the leaf that a page in use is to hold
abbrev pub StoresEntry : {P : Type 0} (g : Ghosts P) (old new : P) (page : ℕ) (bytes key value separator : List ℕ) (result : Result (Option ℕ) PageFault)
    → Type 0
StoresEntry g old new page bytes key value separator result =
    (g.state old).sound → IsSome ((g.state old).array page) → (es : List Entry) → IsNode Leaf [] es bytes
    → Gives g old new result (λ made.
    (g.state new).sound × AreStored Leaf [] (with_entry key value es) page made separator (g.state old).array (g.state new).array)

-- a child is put into the inner node that a page holds
abbrev pub StoresChild : {P : Type 0} (g : Ghosts P) (old new : P) (page child : ℕ) (key separator : List ℕ) (result : Result (Option ℕ) PageFault) → Type 0
StoresChild g old new page child key separator result =
    (g.state old).sound → (first : List ℕ) (cs : List Entry) → Holds (g.state old).array page Inner first cs
    → Gives g old new result (λ made.
    (g.state new).sound × AreStored Inner first (with_entry key (four_bytes child) cs) page made separator (g.state old).array (g.state new).array)

-- an entry is put into a tree
abbrev pub PutsBelow : {P : Type 0} (g : Ghosts P) (old new : P) (page levels : ℕ) (key value separator : List ℕ) (result : Result (Option ℕ) PageFault)
    → Type 0
PutsBelow g old new page levels key value separator result =
    (g.state old).sound → (s : Site) → IsSubtree (g.state old).array s page key levels
    → Gives g old new result (λ made.
    (g.state new).sound × IsPutBelow (g.state old).array (g.state new).array key value s.depth s.low s.high page s.tree made separator)

-- the tree at the root and the one beside it become the children of a new root
abbrev pub GrowsRoot : {P : Type 0} (g : Ghosts P) (old new : P) (second : ℕ) (separator : List ℕ) (result : Result (Unit {0}) PageFault) → Type 0
GrowsRoot g old new second separator result =
    (g.state old).sound → IsSome ((g.state old).array 0)
    → Gives g old new result (λ _. (f : Forest) (d : ℕ) → IsSound (g.state old).array d None f → IsFull f
    → cells f ≡ ([], four_bytes 0) ∷ (separator, four_bytes second) ∷ [] → MeetsAll (g.state old).array f
    → (g.state new).sound × Represents (entries f) (g.state new).array)
