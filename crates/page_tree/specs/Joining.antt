-- The outcome of the calls that join two leaves, where the pages are sound.
use Rattle.std.specs.Prelude.{◌≡◌, ◌<◌, ℕ, suc, Option, Result, MatchResult, IfSome, List, [], ◌∷◌, ◌++◌, length}
use Rattle.pages.specs.declared.array.PageFault.{PageFault}
use Rattle.pages.specs.declared.array.PageFault.TheVariants.{Memory}
use Rattle.pages.specs.declared.array.Pages.{Ghosts}
use Rattle.page_nodes.specs.declared.cell.NodeKind.TheVariants.{Leaf, Inner}
use Rattle.page_nodes.specs.Map.{Entry, without}
use Rattle.page_nodes.specs.Node.{four_bytes, cells_bytes, HasSizes, IsNode}
use Rattle.page_nodes.specs.Search.{pair_from}
use Rattle.page_tree.specs.Forest.{Forest, no_trees, leaf, inner, append, cells, entries, Holds}
use Rattle.page_tree.specs.Puts.{AreInScratch}
use Rattle.page_tree.specs.Removal.{SpellsTrees, IsParent, Becomes}
use Rattle.page_tree.specs.Calls.{Gives}
use Rattle.page_tree.specs.declared.joining.Neighbours.{Neighbours}

-- an inner node without the cell of the right one of two children side by side, of which it keeps others
pub record IsTakenFrom (first : List ℕ) (c : Entry) (cs : List Entry) (key bytes : List ℕ) (leaves : Neighbours) : Type 0 where
  pub left_is : four_bytes leaves.left ≡ (pair_from key first c cs).0
  pub right_is : four_bytes leaves.right ≡ (pair_from key first c cs).1.1
  pub some : 0 < length (without (pair_from key first c cs).1.0 (c ∷ cs))
  pub node : IsNode Inner first (without (pair_from key first c cs).1.0 (c ∷ cs)) bytes

-- the cell of the right child is taken from an inner node, unless one child would be left
abbrev pub TakesCell : (before bytes key : List ℕ) (result : Result (Option Neighbours) PageFault) → Type 0
TakesCell before bytes key result =
    (first : List ℕ) (c : Entry) (cs : List Entry) → IsNode Inner first (c ∷ cs) before
    → MatchResult result (λ found. IfSome found (λ leaves. IsTakenFrom first c cs key bytes leaves)) (λ f. f ≡ Memory)

-- the cells of a leaf are copied to scratch, after those that are there
abbrev pub CopiesLeaf : {P : Type 0} (g : Ghosts P) (old new : P) (page : ℕ) (before scratch : List ℕ) (result : Result ℕ PageFault) → Type 0
CopiesLeaf g old new page before scratch result =
    (g.state old).sound → (es : List Entry) → Holds (g.state old).array page Leaf [] es
    → Gives g old new result (λ count. (count ≡ length es) × (scratch ≡ before ++ cells_bytes Leaf es) × HasSizes Leaf es)

-- the cells of two leaves are copied to scratch, unless they would leave little room in a page
abbrev pub CopiesLeaves : {P : Type 0} (g : Ghosts P) (old new : P) (leaves : Neighbours) (scratch : List ℕ) (result : Result (Option ℕ) PageFault) → Type 0
CopiesLeaves g old new leaves scratch result =
    (g.state old).sound → (es fs : List Entry) → Holds (g.state old).array leaves.left Leaf [] es → Holds (g.state old).array leaves.right Leaf [] fs
    → Gives g old new result (λ found. IfSome found (λ count. AreInScratch Leaf (es ++ fs) scratch count))

-- two leaves side by side among the children of an inner node
pub record AreBeside (children : Forest) (leaves : Neighbours) : Type 0 where
  pub before : Forest
  pub low : List ℕ
  pub left : List Entry
  pub key : List ℕ
  pub right : List Entry
  pub after : Forest
  pub whole : children ≡ append before (leaf low leaves.left left (leaf key leaves.right right after))

-- the children with one leaf in the place of the two
abbrev pub with_joined : {children : Forest} {leaves : Neighbours} → AreBeside children leaves → Forest
with_joined {children} {leaves} p = append p.before (leaf p.low leaves.left (p.left ++ p.right) p.after)

-- of two leaves the left one gets the cells of both, the right one is freed, and the inner node above gets other bytes
abbrev pub StoresJoined : {P : Type 0} (g : Ghosts P) (old new : P) (page : ℕ) (leaves : Neighbours) (bytes scratch : List ℕ) (count : ℕ)
    (result : Result (Unit {0}) PageFault) → Type 0
StoresJoined g old new page leaves bytes scratch count result =
    (g.state old).sound → (d : ℕ) (low : List ℕ) (high : Option (List ℕ)) (first : List ℕ) (cs ds : List Entry) (children : Forest) (p : AreBeside children leaves)
    → IsParent (g.state old).array page d low high first cs children → cells (with_joined p) ≡ (low, first) ∷ ds → 0 < length ds → IsNode Inner first ds bytes
    → AreInScratch Leaf (p.left ++ p.right) scratch count
    → Gives g old new result (λ _. Becomes (g.state old) (g.state new) (inner low page children no_trees) (entries children)
    (λ f. SpellsTrees (g.state new).array (suc d) high ((low, four_bytes page) ∷ []) f))

-- two leaves of an inner node are joined, or it stays as it is
abbrev pub JoinsLeaves : {P : Type 0} (g : Ghosts P) (old new : P) (page : ℕ) (bytes key : List ℕ) (result : Result (Unit {0}) PageFault) → Type 0
JoinsLeaves g old new page bytes key result =
    (g.state old).sound → (d : ℕ) (low : List ℕ) (high : Option (List ℕ)) (first : List ℕ) (c : Entry) (cs : List Entry) (children : Forest)
    → d ≡ 0 → IsParent (g.state old).array page d low high first (c ∷ cs) children → Holds (g.state old).array page Inner first (c ∷ cs) → IsNode Inner first (c ∷ cs) bytes
    → Gives g old new result (λ _. Becomes (g.state old) (g.state new) (inner low page children no_trees) (entries children)
    (λ f. SpellsTrees (g.state new).array (suc d) high ((low, four_bytes page) ∷ []) f))
