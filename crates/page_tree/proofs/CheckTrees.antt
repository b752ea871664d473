-- Trees that are checked: an array holds one forest of some cells at most, and what a check has found so far.
use Rattle.std.proofs.Common.{◌≡◌, ⊎_elim, inl, inr, ℕ, suc, ◌+◌, ◌-◌, ◌^◌, ◌<◌, Bool, true, false, Option, Some, None, List, [], ◌∷◌, ◌++◌, length, refl, sym, ap, ◌∙◌, subst, arith}
use Rattle.std.proofs.Math.Path.{fun_ext}
use Rattle.pages.specs.State.{Array}
use Rattle.page_nodes.specs.declared.cell.NodeKind.{NodeKind}
use Rattle.page_nodes.specs.declared.cell.NodeKind.TheVariants.{Leaf, Inner}
use Rattle.page_nodes.specs.Map.{is_below, Entry, AllAbove, IsRising, rest_entries}
use Rattle.page_nodes.specs.Node.{four_bytes, IsNode, IsWhole}
use Rattle.page_nodes.proofs.Order.{one_way, le_le, lt_le}
use Rattle.page_nodes.proofs.Whole.{kind_same, first_same, node_same}
use Rattle.page_tree.specs.Forest.{Forest, no_trees, leaf, inner, append, cells, Meets, IsUnder, AllFrom, AllUnder, next, Holds, HoldsChildren, IsSound, IsFull}
use Rattle.page_tree.specs.Check.{IsMet, MarksPage, IsReadIfUsed, AreBetween, IsLeafChecked, IsDepthUnder, AreUnmet, AreMarked, AreChecked}
use Rattle.page_tree.proofs.Keys.{under_le}
use Rattle.page_tree.proofs.Bounds.{begin, first_key, cells_from}
use Rattle.page_tree.proofs.Trees.{cells_append, meets_append, meets_left, meets_right, full_left, full_right, parts, joined, in_use}
use Rattle.page_tree.proofs.Descent.{Numbered, AtLeaf, AtInner, no_cells, look, page_same, present, not_gone}
use Rattle.page_tree.proofs.PutTrees.{cut}
use Rattle.page_tree.proofs.RemovalTrees.{next_front, under_page}

-- ---- entries within bounds

pub from_above : (low k : List ℕ) (es : List Entry) → is_below k low ≡ false → AllAbove k es → AllFrom low es
from_above low k [] le all = tt
from_above low k (e ∷ es) le all = (le_le low k e.0 le (one_way k e.0 all.0), from_above low k es le all.1)

pub rest_from : (low : List ℕ) (es : List Entry) → AllFrom low es → rest_entries low es ≡ es
rest_from low [] all = refl
rest_from low (e ∷ es) all = rw all.0 refl

pub under_all : (es : List Entry) → AllUnder None es
under_all [] = tt
under_all (e ∷ es) = (tt, under_all es)

-- the bounds of a leaf that has entries
bounds_some : (low : List ℕ) (high : Option (List ℕ)) (es : List Entry) → AreBetween low high es true → IsUnder low high
bounds_some low high [] is = absurd (omega (arith, is.2))
bounds_some low high (e ∷ es) is = under_le low e.0 high is.0.0 is.1.0

-- ---- one node

some_same : (a b : List ℕ) → Some a ≡ Some b → a ≡ b
some_same a b e = cc

-- the node of a page that is read
pub node_here : (A : Array) (page : ℕ) (bytes : List ℕ) (kind : NodeKind) (first : List ℕ) (cs : List Entry) → A page ≡ Some bytes → Holds A page kind first cs → IsNode kind first cs bytes
node_here A page bytes kind first cs is h = subst (λ (b : List ℕ). IsNode kind first cs b) (some_same h.0 bytes (sym h.1 ∙ is)) h.2

no_first : (first : List ℕ) → length first ≡ 0 → first ≡ []
no_first [] e = refl
no_first (x ∷ xs) e = absurd (omega (arith, e))

-- a whole leaf
pub leaf_node : (bytes : List ℕ) (w : IsWhole bytes Leaf) → IsNode Leaf [] w.cells bytes
leaf_node bytes w = subst (λ (xs : List ℕ). IsNode Leaf xs w.cells bytes) (no_first w.first w.node.first_size) w.node

-- ---- one forest

cell_first : (c d : Entry) (cs ds : List Entry) → c ∷ cs ≡ d ∷ ds → c.0 ≡ d.0
cell_first c d cs ds e = ap (λ (x : Entry). x.0) (let same : c ≡ d = cc in same)

cell_second : (c d : Entry) (cs ds : List Entry) → c ∷ cs ≡ d ∷ ds → c.1 ≡ d.1
cell_second c d cs ds e = ap (λ (x : Entry). x.1) (let same : c ≡ d = cc in same)

cells_rest : (c d : Entry) (cs ds : List Entry) → c ∷ cs ≡ d ∷ ds → cs ≡ ds
cells_rest c d cs ds e = cc

cells_both : (k j a b : List ℕ) (cs ds : List Entry) → k ≡ j → a ≡ b → cs ≡ ds → (k, a) ∷ cs ≡ (j, b) ∷ ds
cells_both k j a b cs ds key payload rest = rw (key, payload, rest) refl

same_key : (a b : List ℕ) → Some a ≡ Some b → a ≡ b
same_key a b e = cc

same_page : (A : Array) → Numbered A → (d : ℕ) (high other : Option (List ℕ)) (f g : Forest) (p q : ℕ) → IsSound A d high f → IsSound A d other g → Meets p f → Meets q g → four_bytes p ≡ four_bytes q → p ≡ q
same_page A n d high other f g p q s t mp mq e =
    let small = n q (in_use A d other g t q mq) in
    page_same A n p q (in_use A d high f s p mp) (omega (arith, small)) e

-- two lists of children that a page holds
same_children : (A : Array) (p : ℕ) (xs ys : List Entry) (f g : Forest) (k : List ℕ) → cells f ≡ xs → cells g ≡ ys → next f None ≡ Some k → next g None ≡ Some k → HoldsChildren A p xs → HoldsChildren A p ys → xs ≡ ys
same_children A p [] ys f g k fx gy fk gk h i = absurd h
same_children A p (x ∷ xs) [] f g k fx gy fk gk h i = absurd i
same_children A p (x ∷ xs) (y ∷ ys) f g k fx gy fk gk h i =
    let node = node_here A p h.0 Inner y.1 ys h.1 i in
    let key : x.0 ≡ y.0 = same_key x.0 y.0 (sym (next_front f None x xs fx) ∙ (fk ∙ (sym gk ∙ next_front g None y ys gy))) in
    cells_both x.0 y.0 x.1 y.1 xs ys key (first_same Inner h.0 x.1 y.1 xs ys h.2 node) (node_same Inner h.0 x.1 y.1 xs ys h.2 node)

leaf_same : (k j : List ℕ) (p q : ℕ) (es ds : List Entry) (f g : Forest) → k ≡ j → p ≡ q → es ≡ ds → f ≡ g → leaf k p es f ≡ leaf j q ds g
leaf_same k j p q es ds f g a b c d = rw (a, b, c, d) refl

inner_same : (k j : List ℕ) (p q : ℕ) (c d f g : Forest) → k ≡ j → p ≡ q → c ≡ d → f ≡ g → inner k p c f ≡ inner j q d g
inner_same k j p q c d f g a b e h = rw (a, b, e, h) refl

pub same_trees : (A : Array) → Numbered A → (d : ℕ) (high other : Option (List ℕ)) (f g : Forest) → IsSound A d high f → IsSound A d other g → cells f ≡ cells g → f ≡ g
same_trees A n d high other no_trees no_trees s t e = refl
same_trees A n d high other no_trees (leaf j q ds g) s t e = absurd (let bad : [] ≡ (j, four_bytes q) ∷ cells g = e in cc)
same_trees A n d high other no_trees (inner j q c g) s t e = absurd (let bad : [] ≡ (j, four_bytes q) ∷ cells g = e in cc)
same_trees A n d high other (leaf k p es f) no_trees s t e = absurd (let bad : (k, four_bytes p) ∷ cells f ≡ [] = e in cc)
same_trees A n d high other (inner k p c f) no_trees s t e = absurd (let bad : (k, four_bytes p) ∷ cells f ≡ [] = e in cc)
same_trees A n d high other (leaf k p es f) (inner j q c g) s t e = absurd (omega (arith, s.1, t.2.1))
same_trees A n d high other (inner k p c f) (leaf j q ds g) s t e = absurd (omega (arith, t.1, s.2.1))
same_trees A n d high other (leaf k p es f) (leaf j q ds g) s t e =
    let page = same_page A n d high other (leaf k p es f) (leaf j q ds g) p q s t (inl refl) (inl refl) (cell_second _ _ (cells f) (cells g) e) in
    let node = node_here A p s.0.0 Leaf [] ds s.0.1 (subst (λ (l : ℕ). Holds A l Leaf [] ds) (sym page) t.0) in
    leaf_same k j p q es ds f g (cell_first _ _ (cells f) (cells g) e) page (node_same Leaf s.0.0 [] [] es ds s.0.2 node) (same_trees A n d high other f g s.5 t.5 (cells_rest _ _ (cells f) (cells g) e))
same_trees A n d high other (inner k p c f) (inner j q b g) s t e =
    let page = same_page A n d high other (inner k p c f) (inner j q b g) p q s t (inl (inl refl)) (inl (inl refl)) (cell_second _ _ (cells f) (cells g) e) in
    let key = cell_first (k, four_bytes p) (j, four_bytes q) (cells f) (cells g) e in
    let deep : t.2.0 ≡ s.2.0 = omega (arith, s.2.1, t.2.1) in
    let children = same_children A p (cells c) (cells b) c b k refl refl s.1 (t.1 ∙ ap (λ (x : List ℕ). Some x) (sym key)) s.0 (subst (λ (l : ℕ). HoldsChildren A l (cells b)) (sym page) t.0) in
    let below = subst (λ (l : ℕ). IsSound A l (next g other) b) deep t.2.2 in
    inner_same k j p q c b f g key page (same_trees A n s.2.0 (next f high) (next g other) c b s.2.2 below children) (same_trees A n d high other f g s.6 t.6 (cells_rest _ _ (cells f) (cells g) e))

-- ---- what is checked

above_from : (k j : List ℕ) (es : List Entry) → is_below k j ≡ true → AllFrom j es → AllAbove k es
above_from k j [] lt all = tt
above_from k j (e ∷ es) lt all = (lt_le k j e.0 lt all.0, above_from k j es lt all.1)

above_rest : (A : Array) (d : ℕ) (high : Option (List ℕ)) (k : List ℕ) (f : Forest) → IsSound A d high f → IsUnder k (next f high) → AllAbove k (cells f)
above_rest A d high k f s u = ⊎_elim (λ gone. rw gone tt)
    (λ more. above_from k more.0 (cells f) (subst (λ (o : Option (List ℕ)). IsUnder k o) (first_key f more.0 high more.1) u) (cells_from A d high f more.0 s more.1)) (begin f)

-- the cells of sound trees rise
pub cells_rise : (A : Array) (d : ℕ) (high : Option (List ℕ)) (f : Forest) → IsSound A d high f → IsRising (cells f)
cells_rise A d high no_trees s = tt
cells_rise A d high (leaf k p es f) s = (above_rest A d high k f s.5 s.3, cells_rise A d high f s.5)
cells_rise A d high (inner k p c f) s = (above_rest A d high k f s.6 s.3, cells_rise A d high f s.6)

-- nothing is marked beyond the pages of trees
pub no_more : (A : Array) (met : List Bool) (d : ℕ) (high : Option (List ℕ)) → AreMarked A met met d high [] no_trees
no_more A met d high = record {
  were_unmet = record { sound = tt; top_is = refl; unmet = λ q m is. m };
  marks = λ q. ((λ is. inr is), (λ is. ⊎_elim (λ m. absurd m) (λ was. was) is));
}

-- trees, and those after them
pub grown : (A : Array) (old mid new : List Bool) (d : ℕ) (high : Option (List ℕ)) (xs ys : List Entry) (c : Entry) (f g : Forest) → ys ≡ c ∷ [] → AreMarked A old mid d (Some c.0) xs f → AreMarked A mid new d high ys g
    → AreMarked A old new d high (xs ++ ys) (append f g)
grown A old mid new d high xs ys c f g one first second =
    let s = first.were_unmet in
    let t = second.were_unmet in
    let bound : Some c.0 ≡ next g high = sym (next_front g high c [] (t.top_is ∙ one)) in
    record {
      were_unmet = record {
        sound = joined A d high f g (subst (λ (o : Option (List ℕ)). IsSound A d o f) bound s.sound) t.sound (λ q m n. t.unmet q n ((first.marks q).1 (inl m)));
        top_is = cells_append f g ∙ (ap (λ (zs : List Entry). zs ++ cells g) s.top_is ∙ ap (λ (zs : List Entry). xs ++ zs) t.top_is);
        unmet = λ q m is. ⊎_elim (λ left. s.unmet q left is) (λ right. t.unmet q right ((first.marks q).1 (inr is))) (meets_append q f g m);
      };
      marks = λ q. (
        (λ is. ⊎_elim (λ right. inl (meets_right q f g right)) (λ before. ⊎_elim (λ left. inl (meets_left q f g left)) (λ was. inr was) ((first.marks q).0 before)) ((second.marks q).0 is)),
        (λ is. (second.marks q).1 (⊎_elim (λ m. ⊎_elim (λ left. inr ((first.marks q).1 (inl left))) (λ right. inl right) (meets_append q f g m)) (λ was. inr ((first.marks q).1 (inr was))) is)),
      );
    }

-- what bounds the tree before these cells
abbrev pub bound_of : List Entry → Option (List ℕ) → Option (List ℕ)
bound_of [] high = high
bound_of (c ∷ cs) high = Some c.0

bound_cells : (f : Forest) (high : Option (List ℕ)) (cs : List Entry) → cells f ≡ cs → next f high ≡ bound_of cs high
bound_cells f high [] e = ap (λ (x : Forest). next x high) (no_cells f e)
bound_cells f high (c ∷ cs) e = next_front f high c cs e

-- where a tree within other trees is refused, those are
pub refused : (A : Array) → Numbered A → (old mid : List Bool) (d : ℕ) (high : Option (List ℕ)) (top front rest : List Entry) (c : Entry) (done : Forest) → top ≡ front ++ (c ∷ rest) → AreMarked A old mid d (Some c.0) front done
    → ((f : Forest) → AreUnmet A mid d (bound_of rest high) (c ∷ []) f → IsFull f → ⊥) → (f : Forest) → AreUnmet A old d high top f → IsFull f → ⊥
refused A n old mid d high top front rest c done whole marked none f is full =
    let first = cut f front (c ∷ rest) (is.top_is ∙ whole) in
    let second = cut first.right (c ∷ []) rest first.right_cells in
    let sound = subst (λ (x : Forest). IsSound A d high x) first.whole is.sound in
    let left = parts A d high first.left first.right sound in
    let right = parts A d high second.left second.right (subst (λ (x : Forest). IsSound A d high x) second.whole left.right) in
    let same : first.left ≡ done = same_trees A n d (next first.right high) (Some c.0) first.left done left.left marked.were_unmet.sound (first.left_cells ∙ sym marked.were_unmet.top_is) in
    let inside : (q : ℕ) → Meets q second.left → Meets q first.right = λ q m. subst (λ (x : Forest). Meets q x) (sym second.whole) (meets_left q second.left second.right m) in
    none second.left
    (record {
      sound = subst (λ (o : Option (List ℕ)). IsSound A d o second.left) (bound_cells second.right high rest second.right_cells) right.left;
      top_is = second.left_cells;
      unmet = λ q m met. ⊎_elim (λ before. left.apart q (subst (λ (x : Forest). Meets q x) (sym same) before) (inside q m))
          (λ was. is.unmet q (subst (λ (x : Forest). Meets q x) (sym first.whole) (meets_right q first.left first.right (inside q m))) was) ((marked.marks q).0 met);
    })
    (full_left second.left second.right (subst (λ (x : Forest). IsFull x) second.whole (full_right first.left first.right (subst (λ (x : Forest). IsFull x) first.whole full))))

-- the depth of a tree, by the node of its page
module _ (A : Array) (n : Numbered A) (page levels : ℕ) (small : page < 2 ^ 32) where
  pub no_depth : A page ≡ None → (t : Forest) (d : ℕ) (high : Option (List ℕ)) (low : List ℕ) → IsSound A d high t → cells t ≡ (low, four_bytes page) ∷ [] → ⊥
  no_depth gone t d high low s top = not_gone A page (present A n t d low high page s top small) gone

  module _ (bytes : List ℕ) (here : A page ≡ Some bytes) (kind : Option NodeKind) (spelled : (k : NodeKind) (first : List ℕ) (cs : List Entry) → IsNode k first cs bytes → kind ≡ Some k) where
    pub depth_none : kind ≡ None → IsDepthUnder A page levels None
    depth_none gone t d high low s top lt = ⊎_elim
        (λ l. absurd (let bad : None ≡ Some Leaf = sym gone ∙ spelled Leaf [] l.es (node_here A page bytes Leaf [] l.es here l.holds) in cc))
        (λ i. absurd (let bad : None ≡ Some Inner = sym gone ∙ spelled Inner i.head.1 i.rest (node_here A page bytes Inner i.head.1 i.rest here i.holds) in cc)) (look A n t d low high page s top small)

    pub depth_leaf : kind ≡ Some Leaf → IsDepthUnder A page levels (Some 0)
    depth_leaf is t d high low s top lt = ⊎_elim
        (λ l. let sound : IsSound A d high (leaf low page l.es no_trees) = subst (λ (x : Forest). IsSound A d high x) l.is s in ap (λ (x : ℕ). Some x) (sym sound.1))
        (λ i. absurd (let bad : Some Leaf ≡ Some Inner = sym is ∙ spelled Inner i.head.1 i.rest (node_here A page bytes Inner i.head.1 i.rest here i.holds) in cc)) (look A n t d low high page s top small)

    pub depth_inner : kind ≡ Some Inner → (child : ℕ) → ((first : List ℕ) (cs : List Entry) → IsNode Inner first cs bytes → four_bytes child ≡ first) → (below : Option ℕ) → IsDepthUnder A child (levels - 1) below
        → (t : Forest) (d : ℕ) (high : Option (List ℕ)) (low : List ℕ) → IsSound A d high t → cells t ≡ (low, four_bytes page) ∷ [] → d < levels → (b : ℕ) × (d ≡ suc b) × (below ≡ Some b)
    depth_inner is child child_is below deeper t d high low s top lt = ⊎_elim
        (λ l. absurd (let bad : Some Inner ≡ Some Leaf = sym is ∙ spelled Leaf [] l.es (node_here A page bytes Leaf [] l.es here l.holds) in cc))
        (λ i.
        let two = cut i.c (i.head ∷ []) i.rest i.cells_are in
        let left = (parts A i.below high two.left two.right (subst (λ (x : Forest). IsSound A i.below high x) two.whole i.sound)).left in
        let first = child_is i.head.1 i.rest (node_here A page bytes Inner i.head.1 i.rest here i.holds) in
        let under : cells two.left ≡ (i.head.0, four_bytes child) ∷ [] = two.left_cells ∙ ap (λ (x : List ℕ). (i.head.0, x) ∷ []) (sym first) in
        (i.below, i.deep, deeper two.left i.below (next two.right high) i.head.0 left under (omega (arith, lt, i.deep)))) (look A n t d low high page s top small)

pub depth_more : (depth d b : ℕ) (below : Option ℕ) → below ≡ Some depth → below ≡ Some b → d ≡ suc b → Some (depth + 1) ≡ Some d
depth_more depth d b below is same deep = let equal : depth ≡ b = (let both : Some depth ≡ Some b = sym is ∙ same in cc) in ap (λ (x : ℕ). Some x) (omega (arith, equal, deep))

pub depth_lost : (d b : ℕ) (below : Option ℕ) → below ≡ None → below ≡ Some b → ⊥
depth_lost d b below is same = let both : None ≡ Some b = sym is ∙ same in cc

-- ---- arrays that are read

pub depth_same : (A B : Array) (page levels : ℕ) (depth : Option ℕ) → ((l : ℕ) → B l ≡ A l) → IsDepthUnder B page levels depth → IsDepthUnder A page levels depth
depth_same A B page levels depth same is = subst (λ (x : Array). IsDepthUnder x page levels depth) (fun_ext same) is

pub checked_same : (A B : Array) (old new : List Bool) (d : ℕ) (high : Option (List ℕ)) (top : List Entry) (whole : Bool) → ((l : ℕ) → B l ≡ A l) → AreChecked B old new d high top whole → AreChecked A old new d high top whole
checked_same A B old new d high top whole same is = subst (λ (x : Array). AreChecked x old new d high top whole) (fun_ext same) is

pub read_yes : (there : Option (List ℕ)) (bytes : List ℕ) (used : Bool) → used ≡ true → IsReadIfUsed there bytes used → there ≡ Some bytes
read_yes there bytes used test is = subst (λ (b : Bool). IsReadIfUsed there bytes b) test is

pub read_no : (there : Option (List ℕ)) (bytes : List ℕ) (used : Bool) → used ≡ false → IsReadIfUsed there bytes used → there ≡ None
read_no there bytes used test is = subst (λ (b : Bool). IsReadIfUsed there bytes b) test is

pub mark_yes : (page : ℕ) (marked : Bool) (old new : List Bool) → marked ≡ true → MarksPage page marked old new → MarksPage page true old new
mark_yes page marked old new test is = subst (λ (b : Bool). MarksPage page b old new) test is

pub mark_no : (page : ℕ) (marked : Bool) (old new : List Bool) → marked ≡ false → MarksPage page marked old new → MarksPage page false old new
mark_no page marked old new test is = subst (λ (b : Bool). MarksPage page b old new) test is

-- ---- the tree under a page is checked

module _ (A : Array) (n : Numbered A) (old : List Bool) (page d : ℕ) (low : List ℕ) (high : Option (List ℕ)) (small : page < 2 ^ 32) where
  abbrev IsRefused : Type 0
  IsRefused = (f : Forest) → AreUnmet A old d high ((low, four_bytes page) ∷ []) f → IsFull f → ⊥

  -- the page is met
  pub meets_top : (f : Forest) → AreUnmet A old d high ((low, four_bytes page) ∷ []) f → Meets page f
  meets_top f is = ⊎_elim (λ l. subst (λ (x : Forest). Meets page x) (sym l.is) (inl refl)) (λ i. subst (λ (x : Forest). Meets page x) (sym i.is) (inl (inl refl)))
      (look A n f d low high page is.sound is.top_is small)

  pub refused_met : (new : List Bool) → MarksPage page false old new → IsRefused
  refused_met new was f is full =
      is.unmet page (meets_top f is) (was (n page (present A n f d low high page is.sound is.top_is small)))

  pub refused_unused : A page ≡ None → IsRefused
  refused_unused gone f is full = not_gone A page (present A n f d low high page is.sound is.top_is small) gone

  -- the page of a leaf
  pub refused_leaf : d ≡ 0 → IsLeafChecked (A page) low high false → IsRefused
  refused_leaf flat none f is full = ⊎_elim
      (λ l.
      let s : IsSound A d high (leaf low page l.es no_trees) = subst (λ (x : Forest). IsSound A d high x) l.is is.sound in
      let all : IsFull (leaf low page l.es no_trees) = subst (λ (x : Forest). IsFull x) l.is full in
      none l.holds.0 l.holds.1 l.es l.holds.2 s.2.2 s.2.0 s.2.1 all.0)
      (λ i. absurd (omega (arith, flat, i.deep))) (look A n f d low high page is.sound is.top_is small)

  module _ (bytes : List ℕ) (here : A page ≡ Some bytes) where
    -- the node of a leaf, and of an inner node
    leaf_there : (f : Forest) → AreUnmet A old d high ((low, four_bytes page) ∷ []) f → (l : AtLeaf A f low page) → IsSound A d high (leaf low page l.es no_trees)
    leaf_there f is l = subst (λ (x : Forest). IsSound A d high x) l.is is.sound

    pub leaf_whole : (f : Forest) → AreUnmet A old d high ((low, four_bytes page) ∷ []) f → AtLeaf A f low page → IsWhole bytes Leaf
    leaf_whole f is l = record { first = []; cells = l.es; node = node_here A page bytes Leaf [] l.es here l.holds; rising = (leaf_there f is l).2.2; some = tt }

    inner_whole : (f : Forest) → IsFull f → (i : AtInner A f d low high page) → IsWhole bytes Inner
    inner_whole f full i =
        let rising : IsRising (i.head ∷ i.rest) = subst (λ (xs : List Entry). IsRising xs) i.cells_are (cells_rise A i.below high i.c i.sound) in
        let all : IsFull (inner low page i.c no_trees) = subst (λ (x : Forest). IsFull x) i.is full in
        let long = ap (λ (xs : List Entry). length xs) i.cells_are in
        record { first = i.head.1; cells = i.rest; node = node_here A page bytes Inner i.head.1 i.rest here i.holds; rising = rising.1; some = omega (arith, all.0, long) }

    pub refused_node : ((kind : NodeKind) → IsWhole bytes kind → ⊥) → IsRefused
    refused_node none f is full = ⊎_elim (λ l. none Leaf (leaf_whole f is l)) (λ i. none Inner (inner_whole f full i)) (look A n f d low high page is.sound is.top_is small)

    pub refused_deep_leaf : IsWhole bytes Leaf → 0 < d → IsRefused
    refused_deep_leaf w deep f is full = ⊎_elim (λ l. omega (arith, deep, (leaf_there f is l).1))
        (λ i. let bad : Leaf ≡ Inner = kind_same Leaf Inner bytes w.first i.head.1 w.cells i.rest w.node (node_here A page bytes Inner i.head.1 i.rest here i.holds) in cc) (look A n f d low high page is.sound is.top_is small)

    module _ (mid : List Bool) (marks : MarksPage page true old mid) where
      pub refused_children : (w : IsWhole bytes Inner) → (below : ℕ) → d ≡ suc below
          → ((f : Forest) → AreUnmet A mid below high ((low, w.first) ∷ w.cells) f → IsFull f → ⊥) → IsRefused
      refused_children w below deep none f is full = ⊎_elim
          (λ l. let bad : Inner ≡ Leaf = kind_same Inner Leaf bytes w.first [] w.cells l.es w.node (node_here A page bytes Leaf [] l.es here l.holds) in cc)
          (λ i.
          let node = node_here A page bytes Inner i.head.1 i.rest here i.holds in
          let s : IsSound A d high (inner low page i.c no_trees) = subst (λ (x : Forest). IsSound A d high x) i.is is.sound in
          let all : IsFull (inner low page i.c no_trees) = subst (λ (x : Forest). IsFull x) i.is full in
          let key : i.head.0 ≡ low = same_key i.head.0 low (sym (next_front i.c None i.head i.rest i.cells_are) ∙ i.begins) in
          let same : i.below ≡ below = omega (arith, deep, i.deep) in
          none i.c
          (record {
            sound = subst (λ (x : ℕ). IsSound A x high i.c) same i.sound;
            top_is = i.cells_are ∙ cells_both i.head.0 low i.head.1 w.first i.rest w.cells key (first_same Inner bytes i.head.1 w.first i.rest w.cells node w.node) (node_same Inner bytes i.head.1 w.first i.rest w.cells node w.node);
            unmet = λ q m met. ⊎_elim (λ at. s.4 (subst (λ (x : ℕ). Meets x i.c) at m))
                (λ was. is.unmet q (subst (λ (x : Forest). Meets q x) (sym i.is) (inl (inr m))) was) ((marks.1 q).0 met);
          })
          all.1) (look A n f d low high page is.sound is.top_is small)

      pub passed_leaf : d ≡ 0 → (w : IsWhole bytes Leaf) → AreBetween low high w.cells true → AreChecked A old mid d high ((low, four_bytes page) ∷ []) true
      passed_leaf flat w is = (
        leaf low page w.cells no_trees,
        record {
          were_unmet = record {
            sound = ((bytes, here, leaf_node bytes w), flat, (is.0, is.1, w.rising), bounds_some low high w.cells is, (λ m. m), tt);
            top_is = refl;
            unmet = λ q m met. ⊎_elim (λ at. marks.0 (subst (λ (x : ℕ). IsMet old x) at met)) (λ none. none) m;
          };
          marks = λ q. (
            (λ met. ⊎_elim (λ at. inl (inl at)) (λ was. inr was) ((marks.1 q).0 met)),
            (λ is. (marks.1 q).1 (⊎_elim (λ m. ⊎_elim (λ at. inl at) (λ none. absurd none) m) (λ was. inr was) is)),
          );
        },
        (is.2, tt),
      )

      pub passed_inner : (new : List Bool) (below : ℕ) → d ≡ suc below → (w : IsWhole bytes Inner) → AreChecked A mid new below high ((low, w.first) ∷ w.cells) true → AreChecked A old new d high ((low, four_bytes page) ∷ []) true
      passed_inner new below deep w (c, marked, full) =
          let were = marked.were_unmet in
          let apart : Meets page c → ⊥ = λ m. were.unmet page m ((marks.1 page).1 (inl refl)) in
          let tree = under_page A page below low high w.first w.cells c were.sound full were.top_is w.some apart (bytes, here, w.node) in (
            inner low page c no_trees,
            record {
              were_unmet = record {
                sound = subst (λ (x : ℕ). IsSound A x high (inner low page c no_trees)) (sym deep) tree.sound;
                top_is = refl;
                unmet = λ q m met. ⊎_elim
                    (λ here. ⊎_elim (λ at. marks.0 (subst (λ (x : ℕ). IsMet old x) at met)) (λ inside. were.unmet q inside ((marks.1 q).1 (inr met))) here) (λ none. none) m;
              };
              marks = λ q. (
                (λ met. ⊎_elim (λ inside. inl (inl (inr inside))) (λ before. ⊎_elim (λ at. inl (inl (inl at))) (λ was. inr was) ((marks.1 q).0 before)) ((marked.marks q).0 met)),
                (λ is. (marked.marks q).1 (⊎_elim (λ m. ⊎_elim (λ here. ⊎_elim (λ at. inr ((marks.1 q).1 (inl at))) (λ inside. inl inside) here) (λ none. absurd none) m) (λ was. inr ((marks.1 q).1 (inr was))) is)),
              );
            },
            tree.full,
          )

      pub inner_checked : (new : List Bool) (below : ℕ) → d ≡ suc below → (w : IsWhole bytes Inner) → (whole : Bool) → AreChecked A mid new below high ((low, w.first) ∷ w.cells) whole → AreChecked A old new d high ((low, four_bytes page) ∷ []) whole
      inner_checked new below deep w true is = passed_inner new below deep w is
      inner_checked new below deep w false is = refused_children w below deep is

  pub leaf_checked : (mid : List Bool) → MarksPage page true old mid → d ≡ 0 → (whole : Bool) → IsLeafChecked (A page) low high whole → AreChecked A old mid d high ((low, four_bytes page) ∷ []) whole
  leaf_checked mid marks flat true (bytes, here, whole) = passed_leaf bytes here mid marks flat whole.0 whole.1
  leaf_checked mid marks flat false none = refused_leaf flat none
