-- The steps of a check: reads one after the other, and the children of an inner node.
use Rattle.std.proofs.Common.{◌≡◌, ◌⊎◌, ⊎_elim, inl, inr, ℕ, ◌+◌, ◌<◌, ◌≤◌, Bool, true, false, Option, Some, None, List, [], ◌∷◌, ◌++◌, length, replicate, refl, sym, ap, ◌∙◌, subst, append_assoc, arith}
use Rattle.std.specs.Prelude.{◌↔◌, IsTrue}
use Rattle.std.proofs.Math.Path.{fun_ext}
use Rattle.std.proofs.lemmas.Bool.{cases_lt, false≢true}
use Rattle.std.proofs.lemmas.List.{get_or-replicate, get_or_past, length-replicate}
use Rattle.pages.specs.State.{Array}
use Rattle.pages.specs.declared.array.Pages.{Ghosts}
use Rattle.page_nodes.specs.declared.cell.NodeKind.TheVariants.{Leaf, Inner}
use Rattle.page_nodes.specs.Map.{Entry, rest_entries}
use Rattle.page_nodes.specs.Node.{four_bytes, IsWhole, IsCellAt, zeros_after}
use Rattle.page_nodes.specs.Search.{AreCellsAt, IsPosition}
use Rattle.page_nodes.proofs.Order.{below_none}
use Rattle.page_nodes.proofs.Scan.{IsHead, head_of}
use Rattle.page_tree.specs.Forest.{Forest, no_trees, leaf, append, entries, Meets, AllFrom, IsSound, IsFull, Represents}
use Rattle.page_tree.specs.Check.{OnlyReadsBelow, IsMet, MarksPage, IsDepthUnder, AreUnmet, AreMarked, AreChecked, IsLeafAlone, IsRootChecked, AreNoMarks, HasMetAll, IsChecked}
use Rattle.page_tree.proofs.Trees.{full_append}
use Rattle.page_tree.proofs.Descent.{Numbered, look, present, not_gone}
use Rattle.page_tree.proofs.Depth.{shallow}
use Rattle.page_tree.proofs.CheckTrees.{rest_from, under_all, leaf_node, leaf_whole, meets_top, same_trees, no_more, grown, refused, bound_of}

-- no read at all
pub reads_none : {P : Type 0} (g : Ghosts P) (p : P) → g.writes_nothing p p → OnlyReadsBelow g p p
reads_none {P} g p nothing = record { preserved = g.preserved_same p; nothing = nothing; leaves = λ sound. record { sound = sound; same = λ l. refl } }

-- reads, and then reads
pub reads_joined : {P : Type 0} (g : Ghosts P) (p q r : P) → OnlyReadsBelow g p q → OnlyReadsBelow g q r → OnlyReadsBelow g p r
reads_joined {P} g p q r first second = record {
  preserved = g.preserved_joined p q r first.preserved second.preserved;
  nothing = g.writes_nothing_joined p q r first.preserved first.nothing second.nothing;
  leaves = λ sound.
      let one = first.leaves sound in
      let two = second.leaves one.sound in
      record { sound = two.sound; same = λ l. two.same l ∙ one.same l };
}

from_nothing : (es : List Entry) → AllFrom [] es
from_nothing [] = tt
from_nothing (e ∷ es) = (below_none e.0, from_nothing es)

-- The children of an inner node, so many of which are checked: their trees are marked, and the next one is that of a key.
pub record Progress (A : Array) (old now : List Bool) (bytes : List ℕ) (d : ℕ) (low first : List ℕ) (cs : List Entry) (key : List ℕ) (child at i count : ℕ) : Type 0 where
  pub front : List Entry
  pub rest : List Entry
  pub here : AreCellsAt Inner bytes at rest (zeros_after Inner first cs)
  pub total : i + length rest ≡ count
  pub whole : (low, first) ∷ cs ≡ front ++ ((key, four_bytes child) ∷ rest)
  pub done : Forest
  pub marked : AreMarked A old now d (Some key) front done
  pub full : IsFull done

pub begins_check : (A : Array) (met : List Bool) (bytes : List ℕ) (d : ℕ) (low first : List ℕ) (cs : List Entry) (child at index left : ℕ) → IsPosition Inner bytes [] cs (zeros_after Inner first cs) at index left → four_bytes child ≡ first
    → Progress A met met bytes d low first cs low child at 0 left
begins_check A met bytes d low first cs child at index left p is =
    let all : rest_entries [] cs ≡ cs = rest_from [] cs (from_nothing cs) in
    record {
      front = [];
      rest = cs;
      here = subst (λ (xs : List Entry). AreCellsAt Inner bytes at xs (zeros_after Inner first cs)) all p.rest;
      total = omega (arith, p.left_is, ap (λ (xs : List Entry). length xs) all);
      whole = ap (λ (x : List ℕ). (low, x) ∷ cs) (sym is);
      done = no_trees;
      marked = no_more A met d (Some low);
      full = tt;
    }

module _ (A : Array) (old now : List Bool) (bytes : List ℕ) (d : ℕ) (low first : List ℕ) (cs : List Entry) (key : List ℕ) (child at i count : ℕ) (p : Progress A old now bytes d low first cs key child at i count) where
  -- the cell that is read
  pub some_left : i < count → 0 < length p.rest
  some_left more = omega (arith, p.total, more)

  no_rest : (rest : List Entry) → length rest ≡ 0 → rest ≡ []
  no_rest [] e = refl
  no_rest (x ∷ xs) e = absurd (omega (arith, e))

  pub none_left : count ≤ i → p.rest ≡ []
  none_left end = no_rest p.rest (omega (arith, p.total, end))

  cell_is : (c : Entry) (k b : List ℕ) → k ≡ c.0 → b ≡ c.1 → c ≡ (k, b)
  cell_is c k b key payload = rw (key, payload) refl

  module _ (view_key payload : List ℕ) (end : ℕ) (more : i < count) (view : IsCellAt Inner bytes at view_key payload end) where
    abbrev head : IsHead Inner bytes p.rest (zeros_after Inner first cs) view_key payload end
    head = head_of Inner bytes at p.rest (zeros_after Inner first cs) view_key payload end p.here (some_left more) view

    bound_is : (high : Option (List ℕ)) → bound_of p.rest high ≡ Some view_key
    bound_is high = ap (λ (xs : List Entry). bound_of xs high) head.cells_are ∙ ap (λ (x : List ℕ). Some x) (sym head.key_is)

    pub goes_on : (new : List Bool) (next : ℕ) → four_bytes next ≡ payload → AreChecked A now new d (Some view_key) ((key, four_bytes child) ∷ []) true → Progress A old new bytes d low first cs view_key next end (i + 1) count
    goes_on new next is (tree, marked, full) = record {
      front = p.front ++ ((key, four_bytes child) ∷ []);
      rest = head.cs;
      here = head.rest;
      total = omega (arith, p.total, ap (λ (xs : List Entry). length xs) head.cells_are);
      whole = p.whole ∙ (ap (λ (xs : List Entry). p.front ++ ((key, four_bytes child) ∷ xs)) (head.cells_are ∙ ap (λ (c : Entry). c ∷ head.cs) (cell_is head.c view_key (four_bytes next) head.key_is (is ∙ head.payload_is)))
          ∙ sym (append_assoc p.front ((key, four_bytes child) ∷ []) ((view_key, four_bytes next) ∷ head.cs)));
      done = append p.done tree;
      marked = grown A old now new d (Some view_key) p.front ((key, four_bytes child) ∷ []) (key, four_bytes child) p.done tree refl p.marked marked;
      full = full_append p.done tree p.full full;
    }

    pub stops : Numbered A → (new : List Bool) (high : Option (List ℕ)) → AreChecked A now new d (Some view_key) ((key, four_bytes child) ∷ []) false → AreChecked A old new d high ((low, first) ∷ cs) false
    stops n new high none =
        refused A n old now d high ((low, first) ∷ cs) p.front p.rest (key, four_bytes child) p.done p.whole p.marked
        (subst (λ (o : Option (List ℕ)). (f : Forest) → AreUnmet A now d o ((key, four_bytes child) ∷ []) f → IsFull f → ⊥) (sym (bound_is high)) none)

  -- the last child
  pub ends : Numbered A → count ≤ i → (new : List Bool) (high : Option (List ℕ)) (whole : Bool) → AreChecked A now new d high ((key, four_bytes child) ∷ []) whole → AreChecked A old new d high ((low, first) ∷ cs) whole
  ends n end new high true (tree, marked, full) =
      let top : (low, first) ∷ cs ≡ p.front ++ ((key, four_bytes child) ∷ []) = p.whole ∙ ap (λ (xs : List Entry). p.front ++ ((key, four_bytes child) ∷ xs)) (none_left end) in (
        append p.done tree,
        subst (λ (xs : List Entry). AreMarked A old new d high xs (append p.done tree)) (sym top) (grown A old now new d high p.front ((key, four_bytes child) ∷ []) (key, four_bytes child) p.done tree refl p.marked marked),
        full_append p.done tree p.full full,
      )
  ends n end new high false none =
      refused A n old now d high ((low, first) ∷ cs) p.front p.rest (key, four_bytes child) p.done p.whole p.marked
      (subst (λ (o : Option (List ℕ)). (f : Forest) → AreUnmet A now d o ((key, four_bytes child) ∷ []) f → IsFull f → ⊥) (sym (ap (λ (xs : List Entry). bound_of xs high) (none_left end))) none)

-- ---- the whole array

-- the root is a leaf
module _ (A : Array) (n : Numbered A) (old : List Bool) where
  pub not_alone : (new : List Bool) → MarksPage 0 false old new → IsLeafAlone A old new false
  not_alone new was f is = is.unmet 0 (meets_top A n old 0 0 [] None (omega arith) f is) (was (omega arith))

  pub not_used : (new : List Bool) → A 0 ≡ None → IsLeafAlone A old new false
  not_used new gone f is = not_gone A 0 (present A n f 0 [] None 0 is.sound is.top_is (omega arith)) gone

  module _ (bytes : List ℕ) (here : A 0 ≡ Some bytes) (new : List Bool) where
    pub no_leaf : (IsWhole bytes Leaf → ⊥) → IsLeafAlone A old new false
    no_leaf none f is = ⊎_elim (λ l. none (leaf_whole A n old 0 0 [] None (omega arith) bytes here f is l)) (λ i. omega (arith, i.deep)) (look A n f 0 [] None 0 is.sound is.top_is (omega arith))

    pub a_leaf : MarksPage 0 true old new → (w : IsWhole bytes Leaf) → IsLeafAlone A old new true
    a_leaf marks w = (
      leaf [] 0 w.cells no_trees,
      record {
        were_unmet = record {
          sound = ((bytes, here, leaf_node bytes w), refl, (from_nothing w.cells, under_all w.cells, w.rising), tt, (λ m. m), tt);
          top_is = refl;
          unmet = λ q m met. ⊎_elim (λ at. marks.0 (subst (λ (x : ℕ). IsMet old x) at met)) (λ none. none) m;
        };
        marks = λ q. (
          (λ met. ⊎_elim (λ at. inl (inl at)) (λ was. inr was) ((marks.1 q).0 met)),
          (λ is. (marks.1 q).1 (⊎_elim (λ m. ⊎_elim (λ at. inl at) (λ none. absurd none) m) (λ was. inr was) is)),
        );
      },
    )

pub root_alone : (A : Array) (old new : List Bool) (d : ℕ) (whole : Bool) → d ≡ 0 → IsLeafAlone A old new whole → IsRootChecked A old new d whole
root_alone A old new d true flat (f, marked) = (f, subst (λ (x : ℕ). AreMarked A old new x None (([], four_bytes 0) ∷ []) f) (sym flat) marked, inr flat)
root_alone A old new d false flat none = λ f is full. none f (subst (λ (x : ℕ). AreUnmet A old x None (([], four_bytes 0) ∷ []) f) flat is)

pub root_full : (A : Array) (old new : List Bool) (d : ℕ) (whole : Bool) → (d ≡ 0 → ⊥) → AreChecked A old new d None (([], four_bytes 0) ∷ []) whole → IsRootChecked A old new d whole
root_full A old new d true deep (f, marked, full) = (f, marked, inl full)
root_full A old new d false deep none = λ f is full. ⊎_elim (λ all. none f is all) (λ flat. deep flat) full

module _ (A : Array) (n : Numbered A) (old : List Bool) (unmet : (q : ℕ) → IsMet old q → ⊥) where
  pub no_root : IsDepthUnder A 0 17 None → IsChecked A false
  no_root none map s =
      let t = s.is_tree in
      let deep = shallow A t.depth None s.tree _ t.sound t.full t.root n in
      let bad : None ≡ Some t.depth = none s.tree t.depth None [] t.sound t.root deep in cc

  module _ (d : ℕ) (measured : IsDepthUnder A 0 17 (Some d)) where
    tree_depth : (map : List Entry) (s : Represents map A) → s.is_tree.depth ≡ d
    tree_depth map s =
        let t = s.is_tree in
        let deep = shallow A t.depth None s.tree _ t.sound t.full t.root n in
        let same : Some d ≡ Some t.depth = measured s.tree t.depth None [] t.sound t.root deep in cc

    tree_unmet : (map : List Entry) (s : Represents map A) → AreUnmet A old d None (([], four_bytes 0) ∷ []) s.tree
    tree_unmet map s = record { sound = subst (λ (x : ℕ). IsSound A x None s.tree) (tree_depth map s) s.is_tree.sound; top_is = s.is_tree.root; unmet = λ q m is. unmet q is }

    pub no_tree : (new : List Bool) → IsRootChecked A old new d false → IsChecked A false
    no_tree new none map s = none s.tree (tree_unmet map s) (subst (λ (x : ℕ). IsFull s.tree ⊎ (x ≡ 0)) (tree_depth map s) s.is_tree.full)

    pub a_tree : (new : List Bool) → IsRootChecked A old new d true → HasMetAll A new → IsChecked A true
    a_tree new (f, marked, full) all = (
      entries f,
      record {
        tree = f;
        is_tree = record {
          depth = d;
          sound = marked.were_unmet.sound;
          root = marked.were_unmet.top_is;
          full = full;
          only = λ q some. ⊎_elim (λ m. m) (λ was. absurd (unmet q was)) ((marked.marks q).0 (all q (n q some) some));
        };
        entries_are = refl;
      },
    )

    pub not_all : (new : List Bool) → IsRootChecked A old new d true → (HasMetAll A new → ⊥) → IsChecked A false
    not_all new (f, marked, full) none map s =
        let same : s.tree ≡ f = same_trees A n d None None s.tree f (tree_unmet map s).sound marked.were_unmet.sound (s.is_tree.root ∙ sym marked.were_unmet.top_is) in
        none (λ l lt some. (marked.marks l).1 (inl (subst (λ (x : Forest). Meets l x) same (s.is_tree.only l some))))

    pub root_checked : (new : List Bool) (all : Bool) → IsRootChecked A old new d true → (IsTrue all ↔ HasMetAll A new) → IsChecked A all
    root_checked new true is test = a_tree new is (test.0 refl)
    root_checked new false is test = not_all new is (λ all. false≢true (test.1 all))

none_met : (n q : ℕ) → IsMet (replicate n false) q → ⊥
none_met n q is = elim (cases_lt q n) [
  | inl lt ↦ false≢true (sym (get_or-replicate n q false false lt) ∙ is)
  | inr past ↦ false≢true (sym (get_or_past (replicate n false) q false (omega (arith, past, length-replicate n false))) ∙ is)
]

pub marks_none : (n : ℕ) (marks : List Bool) → marks ≡ replicate n false → AreNoMarks n marks
marks_none n marks is = record {
  count_is = ap (λ (xs : List Bool). length xs) is ∙ length-replicate n false;
  none = λ q met. none_met n q (subst (λ (xs : List Bool). IsMet xs q) is met);
}

pub root_same : (A B : Array) (old new : List Bool) (d : ℕ) (whole : Bool) → ((l : ℕ) → B l ≡ A l) → IsRootChecked B old new d whole → IsRootChecked A old new d whole
root_same A B old new d whole same is = subst (λ (x : Array). IsRootChecked x old new d whole) (fun_ext same) is

pub root_as : (A : Array) (old new : List Bool) (d : ℕ) (whole other : Bool) → whole ≡ other → IsRootChecked A old new d whole → IsRootChecked A old new d other
root_as A old new d whole other same is = subst (λ (x : Bool). IsRootChecked A old new d x) same is

pub met_all_same : (A B : Array) (new : List Bool) (all : Bool) → ((l : ℕ) → B l ≡ A l) → IsTrue all ↔ HasMetAll B new → IsTrue all ↔ HasMetAll A new
met_all_same A B new all same is = subst (λ (x : Array). IsTrue all ↔ HasMetAll x new) (fun_ext same) is
