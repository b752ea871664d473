-- An inner node follows one of its children.
use Rattle.std.proofs.Common.{◌≡◌, ◌≢◌, ⊎_elim, inl, inr, ℕ, Option, Some, List, [], ◌∷◌, ◌++◌, refl, sym, ap, ◌∙◌, subst}
use Rattle.std.proofs.lemmas.List.{append-nil}
use Rattle.std.specs.Prelude.{IsSome}
use Rattle.pages.specs.State.{Array, PagesState, OnlyReads, Frees}
use Rattle.page_nodes.specs.declared.cell.NodeKind.TheVariants.{Inner}
use Rattle.page_nodes.specs.Map.{Entry}
use Rattle.page_nodes.specs.Node.{four_bytes, IsNode}
use Rattle.page_tree.specs.Forest.{Forest, no_trees, leaf, inner, append, entries, Meets, next, Holds}
use Rattle.page_tree.specs.Removal.{Moves, SpellsTrees, Becomes, IsAround, IsBetween, Describes, HasNoEntry, HasOneChild}
use Rattle.page_tree.specs.declared.removal.Underflow.{Underflow}
use Rattle.page_tree.proofs.Trees.{entries_append}
use Rattle.page_tree.proofs.RemovalPages.{moves_same, moves_then, moves_between, moves_under, some_as, around_keep}
use Rattle.page_tree.proofs.RemovalJoins.{read_holds, spells_keep}

-- the array once the child's page is freed, and the node is read
pub record Given (S T U : PagesState) (page d : ℕ) (low : List ℕ) (high : Option (List ℕ)) (key : List ℕ) (child : ℕ) (first : List ℕ) (cs : List Entry) (from : List ℕ) (before after : Forest) (bytes : List ℕ) : Type 0 where
  pub around : IsAround U.array page d low high key child first cs from before after
  pub node : IsNode Inner first cs bytes

pub given_back : (S T U : PagesState) (page d : ℕ) (low : List ℕ) (high : Option (List ℕ)) (key : List ℕ) (child : ℕ) (first : List ℕ) (cs : List Entry) (from : List ℕ) (before between after : Forest) (bytes : List ℕ)
    → IsAround S.array page d low high key child first cs from before after → Meets child between → IsBetween page before between after → Holds S.array page Inner first cs → Frees child S T → OnlyReads T U → T.array page ≡ Some bytes
    → Given S T U page d low high key child first cs from before after bytes
given_back S T U page d low high key child first cs from before between after bytes a met bt h w only_reads found =
    let other : page ≢ child = λ at. bt.page_apart (subst (λ (n : ℕ). Meets n between) (sym at) met) in
    let one = around_keep S.array T.array page d low high key child first cs from before after a (λ q m. w.others q (λ at. a.child_apart (subst (λ (n : ℕ). Meets n (append before after)) at m))) (some_as S.array T.array page (w.others page other) a.there) in
    record {
      around = around_keep T.array U.array page d low high key child first cs from before after one (λ q m. only_reads.same q) (some_as T.array U.array page (only_reads.same page) one.there);
      node = read_holds T.array page Inner first cs bytes (h.0, w.others page other ∙ h.1, h.2) found;
    }

-- the node is in use, also where its child's page is freed
pub stays_used : (S T : PagesState) (page child : ℕ) (before between after : Forest) → Meets child between → IsBetween page before between after → IsSome (S.array page) → Frees child S T → IsSome (T.array page)
stays_used S T page child before between after met bt there w =
    some_as S.array T.array page (w.others page (λ at. bt.page_apart (subst (λ (n : ℕ). Meets n between) (sym at) met))) there

-- what became of the node, seen from before
follow_moves : (S T U : PagesState) (low : List ℕ) (page : ℕ) (before between now after : Forest) → Moves S.array T.array between now → OnlyReads T U
    → Moves S.array U.array (inner low page (append before (append between after)) no_trees) (inner low page (append before (append now after)) no_trees)
follow_moves S T U low page before between now after m only_reads =
    moves_then S.array T.array U.array (inner low page (append before (append between after)) no_trees) (inner low page (append before (append now after)) no_trees) (inner low page (append before (append now after)) no_trees)
    (moves_under S.array T.array low page (append before (append between after)) (append before (append now after)) (moves_between S.array T.array before after between now m))
    (moves_same T.array U.array (inner low page (append before (append now after)) no_trees) only_reads.same)

same_entries : (before between now after : Forest) → entries now ≡ entries between → entries (append before (append now after)) ≡ entries (append before (append between after))
same_entries before between now after e =
    entries_append before (append now after) ∙ (ap (λ (xs : List Entry). entries before ++ xs) (entries_append now after ∙ (ap (λ (xs : List Entry). xs ++ entries after) e ∙ sym (entries_append between after))) ∙ sym (entries_append before (append between after)))

follow_becomes : (S T U V : PagesState) (low : List ℕ) (page : ℕ) (before between now after : Forest) (R : Forest → Type 0) → Moves S.array T.array between now → entries now ≡ entries between → OnlyReads T U
    → Becomes U V (inner low page (append before (append now after)) no_trees) (entries (append before (append now after))) R
    → Becomes S V (inner low page (append before (append between after)) no_trees) (entries (append before (append between after))) R
follow_becomes S T U V low page before between now after R m e only_reads b = record {
  sound = b.sound;
  trees = b.trees;
  moves = moves_then S.array U.array V.array (inner low page (append before (append between after)) no_trees) (inner low page (append before (append now after)) no_trees) b.trees (follow_moves S T U low page before between now after m only_reads) b.moves;
  entries_are = b.entries_are ∙ same_entries before between now after e;
  result = b.result;
}

leaf_freed : (S T : PagesState) (child : ℕ) (from : List ℕ) → Frees child S T → Moves S.array T.array (leaf from child [] no_trees) no_trees
leaf_freed S T child from w = record {
  others = λ q off still. w.others q (λ at. off (inl at));
  freed = λ q m not. ⊎_elim (λ at. ap T.array at ∙ w.here) (λ none. absurd none) m;
  taken = λ q m off. absurd m;
}

inner_freed : (S T : PagesState) (child : ℕ) (from : List ℕ) (x : Forest) → Frees child S T → Moves S.array T.array (inner from child x no_trees) x
inner_freed S T child from x w = record {
  others = λ q off still. w.others q (λ at. off (inl (inl at)));
  freed = λ q m not. ⊎_elim (λ top. ⊎_elim (λ at. ap T.array at ∙ w.here) (λ y. absurd (not y)) top) (λ none. absurd none) m;
  taken = λ q m off. absurd (off (inl (inr m)));
}

module _ (S T U V : PagesState) (d : ℕ) (low : List ℕ) (high : Option (List ℕ)) (page child : ℕ) (from : List ℕ) (before between after : Forest) (R : Forest → Type 0) where
  pub emptied_meets : HasNoEntry S.array d from child between → Meets child between
  emptied_meets e = subst (λ (y : Forest). Meets child y) (sym e.is) (inl refl)

  -- nothing is left of the child
  pub after_emptied : HasNoEntry S.array d from child between → Frees child S T → OnlyReads T U
      → Becomes U V (inner low page (append before after) no_trees) (entries (append before after)) R → Becomes S V (inner low page (append before (append between after)) no_trees) (entries (append before (append between after))) R
  after_emptied e w only_reads b =
      follow_becomes S T U V low page before between no_trees after R (subst (λ (y : Forest). Moves S.array T.array y no_trees) (sym e.is) (leaf_freed S T child from w)) (sym (ap (λ (y : Forest). entries y) e.is)) only_reads b

  module _ (left : ℕ) where
    pub child_meets : HasOneChild S.array d from (next after high) child left between → Meets child between
    child_meets h = subst (λ (y : Forest). Meets child y) (sym h.is) (inl (inl refl))

    in_between : (h : HasOneChild S.array d from (next after high) child left between) → (q : ℕ) → Meets q h.children → Meets q between
    in_between h q m = subst (λ (y : Forest). Meets q y) (sym h.is) (inl (inr m))

    pub left_between : (h : HasOneChild S.array d from (next after high) child left between) → IsBetween page before between after → IsBetween page before h.children after
    left_between h bt = record {
      apart_before = λ q m n. bt.apart_before q m (in_between h q n);
      apart_after = λ q m n. bt.apart_after q (in_between h q m) n;
      page_apart = λ m. bt.page_apart (in_between h page m);
    }

    pub left_spells : (h : HasOneChild S.array d from (next after high) child left between) → Frees child S T → OnlyReads T U → SpellsTrees U.array h.below (next after high) ((from, four_bytes left) ∷ []) h.children
    left_spells h w only_reads =
        spells_keep S.array U.array h.below (next after high) ((from, four_bytes left) ∷ []) h.children (λ q m. only_reads.same q ∙ w.others q (λ at. h.apart (subst (λ (n : ℕ). Meets n h.children) at m))) h.spells

    -- one child is left of it
    pub after_left : (h : HasOneChild S.array d from (next after high) child left between) → Frees child S T → OnlyReads T U
        → Becomes U V (inner low page (append before (append h.children after)) no_trees) (entries (append before (append h.children after))) R
        → Becomes S V (inner low page (append before (append between after)) no_trees) (entries (append before (append between after))) R
    after_left h w only_reads b =
        follow_becomes S T U V low page before between h.children after R (subst (λ (y : Forest). Moves S.array T.array y h.children) (sym h.is) (inner_freed S T child from h.children w))
        (sym (ap (λ (y : Forest). entries y) h.is ∙ append-nil (entries h.children))) only_reads b

-- of a child that is left as it was told
pub left_as : (A : Array) (d : ℕ) (low : List ℕ) (high : Option (List ℕ)) (page : ℕ) (separator : List ℕ) (f : Forest) (r s : Underflow) → r ≡ s → Describes r A d low high page separator f → Describes s A d low high page separator f
left_as A d low high page separator f r s e left = subst (λ (x : Underflow). Describes x A d low high page separator f) e left
