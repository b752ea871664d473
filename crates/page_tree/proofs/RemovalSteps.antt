-- The steps of a removal, one after another.
use Rattle.std.proofs.Common.{◌≡◌, ⊎_elim, inl, ℕ, suc, ◌<◌, Option, List, [], ◌∷◌, length, refl, sym, ◌∙◌, arith, subst}
use Rattle.std.proofs.lemmas.List.{append-nil}
use Rattle.std.specs.Prelude.{IsSome}
use Rattle.pages.specs.State.{Array, PagesState}
use Rattle.page_nodes.specs.declared.cell.NodeKind.TheVariants.{Leaf, Inner}
use Rattle.page_nodes.specs.Map.{Entry, without, IsRising}
use Rattle.page_nodes.specs.Node.{four_bytes}
use Rattle.page_nodes.specs.Search.{pair_from}
use Rattle.page_tree.specs.Forest.{Forest, no_trees, leaf, inner, append, entries, Meets, AllFrom, AllUnder, next, Holds, IsSound}
use Rattle.page_tree.specs.Puts.{AreWritten, AreStored, made_cells}
use Rattle.page_tree.specs.Removal.{Moves, SpellsTrees, IsParent, Becomes, IsAround, IsBetween, IsRest, IsJoined, HasNoEntry, with_made}
use Rattle.page_tree.proofs.Trees.{in_use}
use Rattle.page_tree.proofs.RemovalPages.{moves_same, moves_then, moves_as, moves_under, stays, stays_out, some_as, between_sound, between_full, between_off}
use Rattle.page_tree.proofs.RemovalTrees.{cells_next, under_page, stored}
use Rattle.page_tree.proofs.RemovalSides.{made_spelled}
use Rattle.page_tree.proofs.RemovalJoins.{becomes_after, spells_keep}

-- the inner node above once the child is put under its neighbour
pub record JoinedParent (S T : PagesState) (page d : ℕ) (low : List ℕ) (high : Option (List ℕ)) (first : List ℕ) (cs : List Entry) (old : Forest) : Type 0 where
  pub children : Forest
  pub parent : IsParent T.array page d low high first cs children
  pub moves : Moves S.array T.array (inner low page old no_trees) (inner low page children no_trees)
  pub entries_are : entries children ≡ entries old

pub joined_parent : (S T : PagesState) (page d : ℕ) (low : List ℕ) (high : Option (List ℕ)) (key : List ℕ) (child : ℕ) (first : List ℕ) (c : Entry) (cs : List Entry) (from : List ℕ) (before lone after : Forest) (rest count : ℕ) (bytes : List ℕ) (made now : Option ℕ) (separator : List ℕ)
    → IsAround S.array page d low high key child first (c ∷ cs) from before after → IsBetween page before lone after → IsRest first c cs key child rest bytes count → made ≡ now
    → Becomes S T (append before (append lone after)) (entries (append before (append lone after))) (λ f. IsJoined T.array d low high first c cs key child made separator f)
    → JoinedParent S T page d low high (four_bytes rest) (with_made separator now (without (pair_from key first c cs).1.0 (c ∷ cs))) (append before (append lone after))
joined_parent S T page d low high key child first c cs from before lone after rest count bytes made now separator a bt r is b =
    let all : Forest = append before (append lone after) in
    let off : Meets page all → ⊥ = between_off S.array S.array page d low high key child first (c ∷ cs) from before after a lone bt in
    let j = b.result in
    let left_is : j.left ≡ four_bytes rest = ⊎_elim (λ y. ⊎_elim (λ z. y.1 ∙ sym z.1) (λ z. absurd (z.0 y.0)) r.first_is) (λ y. ⊎_elim (λ z. absurd (y.0 z.0)) (λ z. y.1 ∙ sym z.1) r.first_is) j.left_is in
    let gone : List Entry = without (pair_from key first c cs).1.0 (c ∷ cs) in
    record {
      children = b.trees;
      parent = record {
        spells = subst (λ (m : Option ℕ). SpellsTrees T.array d high ((low, four_bytes rest) ∷ with_made separator m gone) b.trees) is
            (subst (λ (x : List ℕ). SpellsTrees T.array d high ((low, x) ∷ with_made separator made gone) b.trees) left_is j.spells);
        apart = stays_out S.array T.array all b.trees b.moves page a.there off;
        there = some_as S.array T.array page (stays S.array T.array all b.trees b.moves page a.there off) a.there;
      };
      moves = moves_under S.array T.array low page all b.trees b.moves;
      entries_are = b.entries_are;
    }

-- what becomes of that node becomes of the trees
pub joined_becomes : (S T U : PagesState) (page d : ℕ) (low : List ℕ) (high : Option (List ℕ)) (first : List ℕ) (cs : List Entry) (old : Forest) (R : Forest → Type 0) (j : JoinedParent S T page d low high first cs old)
    → Becomes T U (inner low page j.children no_trees) (entries j.children) R → Becomes S U (inner low page old no_trees) (entries old) R
joined_becomes S T U page d low high first cs old R j b =
    let later = becomes_after S T U (inner low page old no_trees) (inner low page j.children no_trees) (entries j.children) R j.moves b in
    record { sound = later.sound; trees = later.trees; moves = later.moves; entries_are = later.entries_are ∙ j.entries_are; result = later.result }

-- its page is written, and takes another cell
pub written_parent : (T U : Array) (page d : ℕ) (low : List ℕ) (high : Option (List ℕ)) (first : List ℕ) (cs ds : List Entry) (f : Forest) → IsParent T page d low high first cs f → AreWritten Inner first ds page T U → IsParent U page d low high first cs f
written_parent T U page d low high first cs ds f p w = record {
  spells = spells_keep T U d high ((low, first) ∷ cs) f (λ q m. w.others q (λ at. p.apart (subst (λ (l : ℕ). Meets l f) at m))) p.spells;
  apart = p.apart;
  there = subst (λ (o : Option (List ℕ)). IsSome o) (sym w.here) refl;
}

pub written_moves : (T U : Array) (page : ℕ) (low first : List ℕ) (ds : List Entry) (f : Forest) → AreWritten Inner first ds page T U → Moves T U (inner low page f no_trees) (inner low page f no_trees)
written_moves T U page low first ds f w = record { others = λ q off still. w.others q (λ at. off (inl (inl at))); freed = λ q m not. absurd (not m); taken = λ q m not. absurd (not m) }

pub split_becomes : (T U V : PagesState) (page d : ℕ) (low : List ℕ) (high : Option (List ℕ)) (first separator : List ℕ) (cs ds : List Entry) (f : Forest) (split : Option ℕ) → IsParent T.array page d low high first cs f → 0 < length cs → AreWritten Inner first ds page T.array U.array
    → V.sound → AreStored Inner first cs page split separator U.array V.array
    → Becomes T V (inner low page f no_trees) (entries f) (λ u. SpellsTrees V.array (suc d) high ((low, four_bytes page) ∷ made_cells separator split) u)
split_becomes T U V page d low high first separator cs ds f split p some w sound s =
    let st = stored U.array V.array page d low high first separator cs f split (written_parent T.array U.array page d low high first cs ds f p w) some s in
    record {
      sound = sound;
      trees = st.trees;
      moves = moves_then T.array U.array V.array (inner low page f no_trees) (inner low page f no_trees) st.trees (written_moves T.array U.array page low first ds f w) st.moves;
      entries_are = st.entries_are;
      result = st.spells;
    }

-- an inner node whose child has become one tree, or two
pub followed_parent : (A : Array) (page d : ℕ) (low : List ℕ) (high : Option (List ℕ)) (key : List ℕ) (child : ℕ) (first : List ℕ) (c : Entry) (cs : List Entry) (from : List ℕ) (before between after : Forest) (made : Option ℕ) (separator : List ℕ)
    → IsAround A page d low high key child first (c ∷ cs) from before after → IsBetween page before between after → SpellsTrees A d (next after high) ((from, four_bytes child) ∷ made_cells separator made) between
    → IsParent A page d low high first (with_made separator made (c ∷ cs)) (append before (append between after))
followed_parent A page d low high key child first c cs from before between after made separator a bt s = record {
  spells = record {
    sound = between_sound A A page d low high key child first (c ∷ cs) from before after a between s.sound (cells_next between (from, four_bytes child) (made_cells separator made) s.spelled) bt;
    full = between_full A A page d low high key child first (c ∷ cs) from before after a between s.full;
    spelled = made_spelled A d high before between after from (four_bytes child) separator made (low, first) (c ∷ cs) a.before_sound s.sound s.spelled a.spelled;
  };
  apart = between_off A A page d low high key child first (c ∷ cs) from before after a between bt;
  there = a.there;
}

pub same_becomes : (S : PagesState) (page d : ℕ) (low : List ℕ) (high : Option (List ℕ)) (first : List ℕ) (cs : List Entry) (f : Forest) → S.sound → IsParent S.array page d low high first cs f → 0 < length cs → Holds S.array page Inner first cs
    → Becomes S S (inner low page f no_trees) (entries f) (λ u. SpellsTrees S.array (suc d) high ((low, four_bytes page) ∷ []) u)
same_becomes S page d low high first cs f sound p some holds = record {
  sound = sound;
  trees = inner low page f no_trees;
  moves = moves_same S.array S.array (inner low page f no_trees) (λ q. refl);
  entries_are = append-nil (entries f);
  result = under_page S.array page d low high first cs f p.spells.sound p.spells.full p.spells.spelled some p.apart holds;
}

no_entries : (es : List Entry) → length es ≡ 0 → es ≡ []
no_entries [] e = refl
no_entries (x ∷ xs) e = absurd (omega (arith, e))

-- a leaf loses its last entries
pub leaf_emptied : (S : PagesState) (d : ℕ) (low : List ℕ) (high : Option (List ℕ)) (page : ℕ) (es new : List Entry) → S.sound → IsSound S.array d high (leaf low page es no_trees) → length new ≡ 0
    → Becomes S S (leaf low page es no_trees) new (λ u. HasNoEntry S.array d low page u)
leaf_emptied S d low high page es new sound s none = record {
  sound = sound;
  trees = leaf low page [] no_trees;
  moves = moves_as S.array S.array (leaf low page es no_trees) (leaf low page es no_trees) (leaf low page es no_trees) (leaf low page [] no_trees) (λ q m. m) (λ q m. m) (λ q m. m) (λ q m. m) (moves_same S.array S.array (leaf low page es no_trees) (λ q. refl));
  entries_are = sym (no_entries new none);
  result = record { flat = s.1; is = refl; there = in_use S.array d high (leaf low page es no_trees) s page (inl refl) };
}

-- a leaf gets other entries
pub leaf_changed : (S T : PagesState) (d : ℕ) (low : List ℕ) (high : Option (List ℕ)) (page : ℕ) (es new : List Entry) → T.sound → IsSound S.array d high (leaf low page es no_trees) → 0 < length new → AllFrom low new → AllUnder high new → IsRising new
    → AreWritten Leaf [] new page S.array T.array → Becomes S T (leaf low page es no_trees) new (λ u. SpellsTrees T.array d high ((low, four_bytes page) ∷ []) u)
leaf_changed S T d low high page es new sound s some from under rising w = record {
  sound = sound;
  trees = leaf low page new no_trees;
  moves = record { others = λ q off still. w.others q (λ at. off (inl at)); freed = λ q m not. absurd (not m); taken = λ q m not. absurd (not m) };
  entries_are = append-nil new;
  result = record {
    sound = ((w.bytes, w.here, w.node), s.1, (from, under, rising), s.3, (λ m. m), tt);
    full = (some, tt);
    spelled = refl;
  };
}
