-- Trees that an inner node takes, and its pages.
use Rattle.std.proofs.Common.{◌≡◌, ◌≢◌, ⊎_elim, inl, inr, ℕ, suc, ◌<◌, true, Option, Some, None, List, [], ◌∷◌, ◌++◌, length, refl, sym, ap, ◌∙◌, arith, subst}
use Rattle.std.proofs.lemmas.List.{append-nil}
use Rattle.std.specs.Prelude.{IsSome}
use Rattle.pages.specs.State.{Array, PagesState}
use Rattle.page_nodes.specs.declared.cell.NodeKind.TheVariants.{Inner}
use Rattle.page_nodes.specs.Map.{is_below, Entry}
use Rattle.page_nodes.specs.Node.{four_bytes}
use Rattle.page_tree.specs.Forest.{Forest, no_trees, leaf, inner, append, cells, entries, Meets, IsUnder, AllUnder, next, HoldsChildren, IsSound, IsFull}
use Rattle.page_tree.specs.Puts.{AreWritten, AreSplit, AreStored, made_cells}
use Rattle.page_tree.specs.Removal.{Moves, SpellsTrees, IsParent, Becomes, HasOneChild}
use Rattle.page_tree.proofs.Trees.{entries_append, meets_append, meets_left, meets_right, full_left, full_right, parts, in_use, keep}
use Rattle.page_tree.proofs.Bounds.{first_key, cells_under}
use Rattle.page_tree.proofs.Descent.{not_gone}
use Rattle.page_tree.proofs.PutTrees.{Cut, cut}
use Rattle.page_tree.proofs.RemovalPages.{moves_same}

tail_is : (x y : Entry) (xs ys : List Entry) → x ∷ xs ≡ y ∷ ys → xs ≡ ys
tail_is x y xs ys e = cc

head_is : (x y : Entry) (xs ys : List Entry) → x ∷ xs ≡ y ∷ ys → x ≡ y
head_is x y xs ys e = cc

-- trees begin with the key of their first cell
pub cells_next : (f : Forest) (c : Entry) (cs : List Entry) → cells f ≡ c ∷ cs → next f None ≡ Some c.0
cells_next no_trees c cs e = absurd (let bad : [] ≡ c ∷ cs = e in cc)
cells_next (leaf k p es f) c cs e = ap (λ (x : Entry). Some x.0) (head_is (k, four_bytes p) c (cells f) cs e)
cells_next (inner k p d f) c cs e = ap (λ (x : Entry). Some x.0) (head_is (k, four_bytes p) c (cells f) cs e)

pub next_front : (f : Forest) (high : Option (List ℕ)) (c : Entry) (cs : List Entry) → cells f ≡ c ∷ cs → next f high ≡ Some c.0
next_front f high c cs e = first_key f c.0 high (cells_next f c cs e)

-- the first of two parts is below the second
parts_below : (B : Array) (d : ℕ) (high : Option (List ℕ)) (l r : Forest) (x c : Entry) (xs cs : List Entry) → IsSound B d (next r high) l → cells l ≡ x ∷ xs → cells r ≡ c ∷ cs → is_below x.0 c.0 ≡ true
parts_below B d high l r x c xs cs s left right =
    let bound : IsSound B d (Some c.0) l = subst (λ (o : Option (List ℕ)). IsSound B d o l) (next_front r high c cs right) s in
    let all : AllUnder (Some c.0) (x ∷ xs) = subst (λ (ys : List Entry). AllUnder (Some c.0) ys) left (cells_under B d (Some c.0) l bound) in
    all.0

pub cells_bounded : (B : Array) (d : ℕ) (high : Option (List ℕ)) (r : Forest) (c : Entry) (cs : List Entry) → IsSound B d high r → cells r ≡ c ∷ cs → IsUnder c.0 high
cells_bounded B d high r c cs s right =
    let all : AllUnder high (c ∷ cs) = subst (λ (ys : List Entry). AllUnder high ys) right (cells_under B d high r s) in
    all.0

meets_at : (f : Forest) (q p : ℕ) → q ≡ p → Meets q f → Meets p f
meets_at f q p is m = subst (λ (l : ℕ). Meets l f) is m

-- what stands once an inner node is stored
pub record Stored (A B : Array) (page d : ℕ) (low : List ℕ) (high : Option (List ℕ)) (made : Option ℕ) (separator : List ℕ) (children : Forest) : Type 0 where
  pub trees : Forest
  pub moves : Moves A B (inner low page children no_trees) trees
  pub entries_are : entries trees ≡ entries children
  pub spells : SpellsTrees B (suc d) high ((low, four_bytes page) ∷ made_cells separator made) trees

-- children under a page that holds them all
pub under_page : (B : Array) (page d : ℕ) (low : List ℕ) (high : Option (List ℕ)) (first : List ℕ) (cs : List Entry) (c : Forest) → IsSound B d high c → IsFull c → cells c ≡ (low, first) ∷ cs → 0 < length cs → (Meets page c → ⊥)
    → (bytes : HoldsChildren B page ((low, first) ∷ cs)) → SpellsTrees B (suc d) high ((low, four_bytes page) ∷ []) (inner low page c no_trees)
under_page B page d low high first cs c s full spelled some apart holds = record {
  sound = (
    subst (λ (xs : List Entry). HoldsChildren B page xs) (sym spelled) holds,
    cells_next c (low, first) cs spelled,
    (d, refl, s),
    cells_bounded B d high c (low, first) cs s spelled,
    apart,
    (λ q m none. none),
    tt,
  );
  full = ((let long = ap (λ (xs : List Entry). length xs) spelled in omega (arith, long, some)), full, tt);
  spelled = refl;
}

stored_one : (A B : Array) (page d : ℕ) (low : List ℕ) (high : Option (List ℕ)) (first separator : List ℕ) (cs : List Entry) (c : Forest) → IsParent A page d low high first cs c → 0 < length cs → AreWritten Inner first cs page A B
    → Stored A B page d low high None separator c
stored_one A B page d low high first separator cs c p some w =
    let same : (q : ℕ) → Meets q c → B q ≡ A q = λ q m. w.others q (λ at. p.apart (meets_at c q page at m)) in
    record {
      trees = inner low page c no_trees;
      moves = record { others = λ q off still. w.others q (λ at. off (inl (inl at))); freed = λ q m not. absurd (not m); taken = λ q m not. absurd (not m) };
      entries_are = append-nil (entries c);
      spells = under_page B page d low high first cs c (keep A B d high c same p.spells.sound) p.spells.full p.spells.spelled some p.apart (w.bytes, w.here, w.node);
    }

stored_two : (A B : Array) (page made d : ℕ) (low : List ℕ) (high : Option (List ℕ)) (first separator : List ℕ) (cs : List Entry) (c : Forest) → IsParent A page d low high first cs c → (w : AreSplit Inner first cs page made separator A B)
    → (t : Cut c ((low, first) ∷ w.front) (w.c ∷ w.back)) → Stored A B page d low high (Some made) separator c
stored_two A B page made d low high first separator cs c p w t =
    let distinct : page ≢ made = λ at. not_gone A made (subst (λ (l : ℕ). IsSome (A l)) at p.there) w.was_free in
    let two = parts A d high t.left t.right (subst (λ (x : Forest). IsSound A d high x) t.whole p.spells.sound) in
    let in_left : (q : ℕ) → Meets q t.left → Meets q c = λ q m. subst (λ (x : Forest). Meets q x) (sym t.whole) (meets_left q t.left t.right m) in
    let in_right : (q : ℕ) → Meets q t.right → Meets q c = λ q m. subst (λ (x : Forest). Meets q x) (sym t.whole) (meets_right q t.left t.right m) in
    let fresh : Meets made c → ⊥ = λ m. not_gone A made (in_use A d high c p.spells.sound made m) w.was_free in
    let same : (q : ℕ) → Meets q c → B q ≡ A q = λ q m. w.others q (λ at. p.apart (meets_at c q page at m)) (λ at. fresh (meets_at c q made at m)) in
    let full_parts : IsFull (append t.left t.right) = subst (λ (x : Forest). IsFull x) t.whole p.spells.full in
    let bound : next t.right high ≡ Some w.c.0 = next_front t.right high w.c w.back t.right_cells in
    record {
      trees = inner low page t.left (inner w.c.0 made t.right no_trees);
      moves = record {
        others = λ q off still. w.others q (λ at. off (inl (inl at))) (λ at. still (inr (inl (inl at))));
        freed = λ q m not. absurd (⊎_elim (λ top. ⊎_elim (λ at. not (inl (inl at)))
            (λ old. ⊎_elim (λ l. not (inl (inr l))) (λ r. not (inr (inl (inr r)))) (meets_append q t.left t.right (subst (λ (x : Forest). Meets q x) t.whole old))) top) (λ none. none) m);
        taken = λ q m off. ⊎_elim (λ top. absurd (⊎_elim (λ at. off (inl (inl at))) (λ l. off (inl (inr (in_left q l)))) top))
            (λ rest. ⊎_elim (λ there. ⊎_elim (λ at. ap A at ∙ w.was_free) (λ r. absurd (off (inl (inr (in_right q r))))) there) (λ none. absurd none) rest) m;
      };
      entries_are = ap (λ (xs : List Entry). entries t.left ++ xs) (append-nil (entries t.right)) ∙ (sym (entries_append t.left t.right) ∙ ap (λ (x : Forest). entries x) (sym t.whole));
      spells = record {
        sound = (
          subst (λ (xs : List Entry). HoldsChildren B page xs) (sym t.left_cells) (w.bytes, w.here, w.node),
          cells_next t.left (low, first) w.front t.left_cells,
          (d, refl, keep A B d (Some w.c.0) t.left (λ q m. same q (in_left q m)) (subst (λ (o : Option (List ℕ)). IsSound A d o t.left) bound two.left)),
          parts_below A d high t.left t.right (low, first) w.c w.front w.back two.left t.left_cells t.right_cells,
          (λ m. p.apart (in_left page m)),
          (λ q m n. ⊎_elim (λ there. ⊎_elim
              (λ at_made. ⊎_elim (λ at. distinct (sym at ∙ at_made)) (λ l. fresh (meets_at c q made at_made (in_left q l))) m)
              (λ r. ⊎_elim (λ at. p.apart (meets_at c q page at (in_right q r))) (λ l. two.apart q l r) m) there) (λ none. none) n),
          (
            subst (λ (xs : List Entry). HoldsChildren B made xs) (sym t.right_cells) (w.second_bytes, w.there, w.second_node),
            cells_next t.right w.c w.back t.right_cells,
            (d, refl, keep A B d high t.right (λ q m. same q (in_right q m)) two.right),
            cells_bounded A d high t.right w.c w.back two.right t.right_cells,
            (λ m. fresh (in_right made m)),
            (λ q m none. none),
            tt,
          ),
        );
        full = (
          (let long = ap (λ (xs : List Entry). length xs) t.left_cells in omega (arith, long, w.some)),
          full_left t.left t.right full_parts,
          ((let long = ap (λ (xs : List Entry). length xs) t.right_cells in omega (arith, long, w.more)), full_right t.left t.right full_parts, tt),
        );
        spelled = ap (λ (k : List ℕ). (low, four_bytes page) ∷ (k, four_bytes made) ∷ []) (sym w.separator_is);
      };
    }

pub stored : (A B : Array) (page d : ℕ) (low : List ℕ) (high : Option (List ℕ)) (first separator : List ℕ) (cs : List Entry) (c : Forest) (made : Option ℕ) → IsParent A page d low high first cs c → 0 < length cs → AreStored Inner first cs page made separator A B
    → Stored A B page d low high made separator c
stored A B page d low high first separator cs c None p some w = stored_one A B page d low high first separator cs c p some w
stored A B page d low high first separator cs c (Some made) p some w =
    stored_two A B page made d low high first separator cs c p w (cut c ((low, first) ∷ w.front) (w.c ∷ w.back) (p.spells.spelled ∙ ap (λ (xs : List Entry). (low, first) ∷ xs) w.whole))

pub stored_becomes : (old new : PagesState) (page d : ℕ) (low : List ℕ) (high : Option (List ℕ)) (made : Option ℕ) (separator : List ℕ) (c : Forest) → new.sound → Stored old.array new.array page d low high made separator c
    → Becomes old new (inner low page c no_trees) (entries c) (λ u. SpellsTrees new.array (suc d) high ((low, four_bytes page) ∷ made_cells separator made) u)
stored_becomes old new page d low high made separator c sound s = record { sound = sound; trees = s.trees; moves = s.moves; entries_are = s.entries_are; result = s.spells }

no_cells : (cs : List Entry) → length cs ≡ 0 → cs ≡ []
no_cells [] e = refl
no_cells (c ∷ cs) e = absurd (omega (arith, e))

-- one child is left of an inner node without cells
pub one_child : (A : Array) (page d : ℕ) (low : List ℕ) (high : Option (List ℕ)) (child : ℕ) (cs : List Entry) (c : Forest) → IsParent A page d low high (four_bytes child) cs c → length cs ≡ 0
    → HasOneChild A (suc d) low high page child (inner low page c no_trees)
one_child A page d low high child cs c p none = record {
  below = d;
  deep = refl;
  children = c;
  is = refl;
  spells = record { sound = p.spells.sound; full = p.spells.full; spelled = p.spells.spelled ∙ ap (λ (xs : List Entry). (low, four_bytes child) ∷ xs) (no_cells cs none) };
  apart = p.apart;
  there = p.there;
}

pub child_becomes : (s : PagesState) (page d : ℕ) (low : List ℕ) (high : Option (List ℕ)) (child : ℕ) (cs : List Entry) (c : Forest) → s.sound → IsParent s.array page d low high (four_bytes child) cs c → length cs ≡ 0
    → Becomes s s (inner low page c no_trees) (entries c) (λ u. HasOneChild s.array (suc d) low high page child u)
child_becomes s page d low high child cs c sound p none = record {
  sound = sound;
  trees = inner low page c no_trees;
  moves = moves_same s.array s.array (inner low page c no_trees) (λ q. refl);
  entries_are = append-nil (entries c);
  result = one_child s.array page d low high child cs c p none;
}
