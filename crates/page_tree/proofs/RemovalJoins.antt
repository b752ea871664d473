-- A child that is put under its neighbour.
use Rattle.std.proofs.Common.{◌≡◌, ℕ, suc, ◌<◌, Option, Some, List, [], ◌∷◌, length, sym, ap, ◌∙◌, subst}
use Rattle.pages.specs.State.{Array, PagesState, OnlyReads}
use Rattle.page_nodes.specs.declared.cell.NodeKind.{NodeKind}
use Rattle.page_nodes.specs.declared.cell.NodeKind.TheVariants.{Inner}
use Rattle.page_nodes.specs.Map.{Entry, with_entry}
use Rattle.page_nodes.specs.Node.{four_bytes, IsNode}
use Rattle.page_tree.specs.Forest.{Forest, no_trees, inner, entries, Meets, AllUnder, next, Holds, IsSound}
use Rattle.page_tree.specs.Puts.{AreInScratch, AreStored, made_cells}
use Rattle.page_tree.specs.Removal.{Moves, SpellsTrees, IsParent, Becomes}
use Rattle.page_tree.proofs.Trees.{parts, keep}
use Rattle.page_tree.proofs.Bounds.{cells_under}
use Rattle.page_tree.proofs.PutTrees.{cut}
use Rattle.page_tree.proofs.RemovalPages.{moves_same, moves_then, some_as}
use Rattle.page_tree.proofs.RemovalTrees.{stored, stored_becomes}
use Rattle.page_tree.proofs.RemovalSides.{with_ahead}

some_same : (a b : List ℕ) → Some a ≡ Some b → a ≡ b
some_same a b e = cc

-- the bytes that were read are those of the node that the page holds
pub read_holds : (A : Array) (page : ℕ) (kind : NodeKind) (first : List ℕ) (cs : List Entry) (bytes : List ℕ) → Holds A page kind first cs → A page ≡ Some bytes → IsNode kind first cs bytes
read_holds A page kind first cs bytes h e = subst (λ (x : List ℕ). IsNode kind first cs x) (some_same h.0 bytes (sym h.1 ∙ e)) h.2

-- a change after another
pub becomes_after : (S T U : PagesState) (t u : Forest) (es : List Entry) (R : Forest → Type 0) → Moves S.array T.array t u → Becomes T U u es R → Becomes S U t es R
becomes_after S T U t u es R m b = record { sound = b.sound; trees = b.trees; moves = moves_then S.array T.array U.array t u b.trees m b.moves; entries_are = b.entries_are; result = b.result }

pub becomes_read : (S T U : PagesState) (t : Forest) (es : List Entry) (R : Forest → Type 0) → OnlyReads S T → Becomes T U t es R → Becomes S U t es R
becomes_read S T U t es R only_reads b = becomes_after S T U t t es R (moves_same S.array T.array t only_reads.same) b

pub spells_keep : (A B : Array) (d : ℕ) (high : Option (List ℕ)) (cs : List Entry) (f : Forest) → ((q : ℕ) → Meets q f → B q ≡ A q) → SpellsTrees A d high cs f → SpellsTrees B d high cs f
spells_keep A B d high cs f same s = record { sound = keep A B d high f same s.sound; full = s.full; spelled = s.spelled }

pub parent_keep : (A B : Array) (page d : ℕ) (low : List ℕ) (high : Option (List ℕ)) (first : List ℕ) (cs : List Entry) (f : Forest) → ((q : ℕ) → B q ≡ A q) → IsParent A page d low high first cs f → IsParent B page d low high first cs f
parent_keep A B page d low high first cs f same p = record { spells = spells_keep A B d high ((low, first) ∷ cs) f (λ q m. same q) p.spells; apart = p.apart; there = some_as A B page (same page) p.there }

-- a cell that stands before the others
pub with_before : (A : Array) (d : ℕ) (high : Option (List ℕ)) (x : Entry) (key b : List ℕ) (cs : List Entry) (f : Forest) → SpellsTrees A d high (x ∷ (key, b) ∷ cs) f → with_entry key b cs ≡ (key, b) ∷ cs
with_before A d high x key b cs f s =
    let t = cut f (x ∷ (key, b) ∷ []) cs s.spelled in
    let two = parts A d high t.left t.right (subst (λ (y : Forest). IsSound A d high y) t.whole s.sound) in
    let all : AllUnder (next t.right high) (x ∷ (key, b) ∷ []) = subst (λ (ys : List Entry). AllUnder (next t.right high) ys) t.left_cells (cells_under A d (next t.right high) t.left two.left) in
    ap (λ (ys : List Entry). with_entry key b ys) (sym t.right_cells) ∙ (with_ahead key b t.right high all.1.0 ∙ ap (λ (ys : List Entry). (key, b) ∷ ys) t.right_cells)

pub copied_as : (cs ds : List Entry) (bytes : List ℕ) (count : ℕ) → cs ≡ ds → AreInScratch Inner cs bytes count → AreInScratch Inner ds bytes count
copied_as cs ds bytes count e d = subst (λ (xs : List Entry). AreInScratch Inner xs bytes count) e d

-- an inner node stored after a read
pub stored_read : (S T U : PagesState) (page d : ℕ) (low : List ℕ) (high : Option (List ℕ)) (first written separator : List ℕ) (cs : List Entry) (f : Forest) (made : Option ℕ) → OnlyReads S T → IsParent S.array page d low high first cs f → 0 < length cs
    → written ≡ first → U.sound → AreStored Inner written cs page made separator T.array U.array
    → Becomes S U (inner low page f no_trees) (entries f) (λ u. SpellsTrees U.array (suc d) high ((low, four_bytes page) ∷ made_cells separator made) u)
stored_read S T U page d low high first written separator cs f made only_reads p some same sound s =
    becomes_read S T U (inner low page f no_trees) (entries f) (λ u. SpellsTrees U.array (suc d) high ((low, four_bytes page) ∷ made_cells separator made) u) only_reads
    (stored_becomes T U page d low high made separator f sound (stored T.array U.array page d low high first separator cs f made (parent_keep S.array T.array page d low high first cs f only_reads.same p) some
    (subst (λ (x : List ℕ). AreStored Inner x cs page made separator T.array U.array) same s)))
