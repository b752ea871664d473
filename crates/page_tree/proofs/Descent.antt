-- What is known of a tree once its page is read.
use Rattle.std.proofs.Common.{◌≡◌, ◌⊎◌, ⊎_elim, inl, inr, ℕ, suc, ◌-◌, ◌^◌, ◌<◌, true, false, Option, Some, None, List, [], ◌∷◌, ◌++◌, length, refl, sym, ap, ◌∙◌, arith, subst}
use Rattle.std.proofs.lemmas.List.{append-nil}
use Rattle.std.specs.Borrow.{Bor}
use Rattle.std.specs.Prelude.{IsSome, is_some}
use Rattle.pages.specs.declared.array.Pages.{Ghosts}
use Rattle.pages.specs.State.{Array, OnlyReads}
use Rattle.page_nodes.specs.declared.cell.NodeKind.{NodeKind}
use Rattle.page_nodes.specs.declared.cell.NodeKind.TheVariants.{Leaf, Inner}
use Rattle.page_nodes.specs.Map.{Entry, value_for, lent_bytes}
use Rattle.page_nodes.specs.Node.{four_bytes, IsNode}
use Rattle.page_nodes.specs.Search.{child_in}
use Rattle.page_nodes.proofs.Cells.{four_same}
use Rattle.page_tree.specs.Forest.{Forest, no_trees, leaf, inner, append, cells, entries, next, Holds, HoldsChildren, IsSound, IsFull}
use Rattle.page_tree.specs.Site.{Site, IsSubtree, site_of}
use Rattle.page_tree.specs.Search.{IsLookedUp, HasLeafOf}
use Rattle.page_tree.proofs.Trees.{keep, in_use, full_left, full_right}
use Rattle.page_tree.proofs.Place.{Place, find, placed, child_place, value_place}

abbrev pub Numbered : Array → Type 0
Numbered A = (l : ℕ) → IsSome (A l) → l < 65536

pub record AtLeaf (A : Array) (t : Forest) (low : List ℕ) (page : ℕ) : Type 0 where
  pub es : List Entry
  pub is : t ≡ leaf low page es no_trees
  pub holds : Holds A page Leaf [] es

pub record AtInner (A : Array) (t : Forest) (d : ℕ) (low : List ℕ) (high : Option (List ℕ)) (page : ℕ) : Type 0 where
  pub c : Forest
  pub below : ℕ
  pub deep : d ≡ suc below
  pub is : t ≡ inner low page c no_trees
  pub sound : IsSound A below high c
  pub begins : next c None ≡ Some low
  pub head : Entry
  pub rest : List Entry
  pub cells_are : cells c ≡ head ∷ rest
  pub holds : Holds A page Inner head.1 rest

-- the bytes that are lent are those that were fetched
pub lent_as : {kind : NodeKind} {first : List ℕ} {cs : List Entry} {lent fetched : List ℕ} → lent ≡ fetched → IsNode kind first cs fetched → IsNode kind first cs lent
lent_as {kind} {first} {cs} is node = subst (λ (bytes : List ℕ). IsNode kind first cs bytes) (sym is) node

pub no_cells : (f : Forest) → cells f ≡ [] → f ≡ no_trees
no_cells no_trees e = refl
no_cells (leaf k p es f) e = absurd (let bad : (k, four_bytes p) ∷ cells f ≡ [] = e in cc)
no_cells (inner k p c f) e = absurd (let bad : (k, four_bytes p) ∷ cells f ≡ [] = e in cc)

children_at : (A : Array) (p : ℕ) (cs : List Entry) → HoldsChildren A p cs → (head : Entry) × (rest : List Entry) × (cs ≡ head ∷ rest) × Holds A p Inner head.1 rest
children_at A p [] h = absurd h
children_at A p (c ∷ cs) h = (c, cs, refl, h)

pub page_same : (A : Array) → Numbered A → (p page : ℕ) → IsSome (A p) → page < 2 ^ 32 → four_bytes p ≡ four_bytes page → p ≡ page
page_same A numbered p page some small e = four_same p page [] [] (let less = numbered p some in omega (arith, less)) small (ap (λ (xs : List ℕ). xs ++ []) e)

leaf_is : (k low : List ℕ) (p page : ℕ) (es : List Entry) (f : Forest) → k ≡ low → p ≡ page → f ≡ no_trees → leaf k p es f ≡ leaf low page es no_trees
leaf_is k low p page es f a b c = rw (a, b, c) refl

inner_is : (k low : List ℕ) (p page : ℕ) (c f : Forest) → k ≡ low → p ≡ page → f ≡ no_trees → inner k p c f ≡ inner low page c no_trees
inner_is k low p page c f a b e = rw (a, b, e) refl

head_key : List Entry → List ℕ
head_key [] = []
head_key (c ∷ cs) = c.0

head_payload : List Entry → List ℕ
head_payload [] = []
head_payload (c ∷ cs) = c.1

cell_key : (k low : List ℕ) (x y : List ℕ) (cs : List Entry) → (k, x) ∷ cs ≡ (low, y) ∷ [] → k ≡ low
unfolding head_key
cell_key k low x y cs e = ap head_key e

cell_payload : (k low : List ℕ) (x y : List ℕ) (cs : List Entry) → (k, x) ∷ cs ≡ (low, y) ∷ [] → x ≡ y
unfolding head_payload
cell_payload k low x y cs e = ap head_payload e

cell_last : (c d : Entry) (cs : List Entry) → c ∷ cs ≡ d ∷ [] → cs ≡ []
cell_last c d cs e = cc

pub look : (A : Array) → Numbered A → (t : Forest) (d : ℕ) (low : List ℕ) (high : Option (List ℕ)) (page : ℕ) → IsSound A d high t → cells t ≡ (low, four_bytes page) ∷ [] → page < 2 ^ 32
    → AtLeaf A t low page ⊎ AtInner A t d low high page
look A numbered no_trees d low high page s top small = absurd (let bad : [] ≡ (low, four_bytes page) ∷ [] = top in cc)
look A numbered (leaf k p es f) d low high page s top small =
    let gone = no_cells f (cell_last _ _ (cells f) top) in
    let same = page_same A numbered p page (in_use A d high (leaf k p es f) s p (inl refl)) small (cell_payload k low (four_bytes p) (four_bytes page) (cells f) top) in
    inl (record { es = es; is = leaf_is k low p page es f (cell_key k low (four_bytes p) (four_bytes page) (cells f) top) same gone; holds = subst (λ (n : ℕ). Holds A n Leaf [] es) same s.0 })
look A numbered (inner k p c f) d low high page s top small =
    let gone = no_cells f (cell_last _ _ (cells f) top) in
    let same = page_same A numbered p page (in_use A d high (inner k p c f) s p (inl (inl refl))) small (cell_payload k low (four_bytes p) (four_bytes page) (cells f) top) in
    let key = cell_key k low (four_bytes p) (four_bytes page) (cells f) top in
    let children = children_at A p (cells c) s.0 in
    inr (record {
      c = c;
      below = s.2.0;
      deep = s.2.1;
      is = inner_is k low p page c f key same gone;
      sound = subst (λ (x : Forest). IsSound A s.2.0 (next x high) c) gone s.2.2;
      begins = s.1 ∙ ap (λ (x : List ℕ). Some x) key;
      head = children.0;
      rest = children.1;
      cells_are = children.2;
      holds = subst (λ (n : ℕ). Holds A n Inner children.0.1 children.1) same children.3;
    })

-- what a page that is read holds
pub record ReadLeaf (t : Forest) (low : List ℕ) (page : ℕ) (bytes : List ℕ) : Type 0 where
  pub es : List Entry
  pub is : t ≡ leaf low page es no_trees
  pub node : IsNode Leaf [] es bytes

pub record ReadInner (A : Array) (t : Forest) (d : ℕ) (low : List ℕ) (high : Option (List ℕ)) (page : ℕ) (bytes : List ℕ) : Type 0 where
  pub at : AtInner A t d low high page
  pub node : IsNode Inner at.head.1 at.rest bytes

abbrev pub HoldsAsRead : Array → ℕ → NodeKind → List ℕ → Type 0
HoldsAsRead A page k bytes = (kind : NodeKind) (first : List ℕ) (cs : List Entry) → Holds A page kind first cs → (k ≡ kind) × IsNode kind first cs bytes

pub leaf_read : (A : Array) → Numbered A → (t : Forest) (d : ℕ) (low : List ℕ) (high : Option (List ℕ)) (page : ℕ) (key : List ℕ) (levels : ℕ) (bytes : List ℕ) → page < 2 ^ 32 → IsSubtree A (site_of t d low high) page key levels
    → (k : NodeKind) → HoldsAsRead A page k bytes → k ≡ Leaf → ReadLeaf t low page bytes
leaf_read A numbered t d low high page key levels bytes small at k reads is =
    ⊎_elim (λ l. record { es = l.es; is = l.is; node = (reads Leaf [] l.es l.holds).1 })
    (λ i. absurd (let other : Leaf ≡ Inner = sym is ∙ (reads Inner i.head.1 i.rest i.holds).0 in cc)) (look A numbered t d low high page at.sound at.top small)

pub inner_read : (A : Array) → Numbered A → (t : Forest) (d : ℕ) (low : List ℕ) (high : Option (List ℕ)) (page : ℕ) (key : List ℕ) (levels : ℕ) (bytes : List ℕ) → page < 2 ^ 32 → IsSubtree A (site_of t d low high) page key levels
    → (k : NodeKind) → HoldsAsRead A page k bytes → k ≡ Inner → ReadInner A t d low high page bytes
inner_read A numbered t d low high page key levels bytes small at k reads is =
    ⊎_elim (λ l. absurd (let other : Inner ≡ Leaf = sym is ∙ (reads Leaf [] l.es l.holds).0 in cc))
    (λ i. record { at = i; node = (reads Inner i.head.1 i.rest i.holds).1 }) (look A numbered t d low high page at.sound at.top small)

-- a page that holds some node
pub record HoldsNode (A : Array) (page : ℕ) : Type 0 where
  pub kind : NodeKind
  pub first : List ℕ
  pub cs : List Entry
  pub holds : Holds A page kind first cs

pub holds_node : (A : Array) → Numbered A → (t : Forest) (d : ℕ) (low : List ℕ) (high : Option (List ℕ)) (page : ℕ) → IsSound A d high t → cells t ≡ (low, four_bytes page) ∷ [] → page < 2 ^ 32 → HoldsNode A page
holds_node A numbered t d low high page s top small =
    ⊎_elim (λ l. record { kind = Leaf; first = []; cs = l.es; holds = l.holds }) (λ i. record { kind = Inner; first = i.head.1; cs = i.rest; holds = i.holds }) (look A numbered t d low high page s top small)

-- the page is in use
pub present : (A : Array) → Numbered A → (t : Forest) (d : ℕ) (low : List ℕ) (high : Option (List ℕ)) (page : ℕ) → IsSound A d high t → cells t ≡ (low, four_bytes page) ∷ [] → page < 2 ^ 32 → IsSome (A page)
present A numbered no_trees d low high page s top small = absurd (let bad : [] ≡ (low, four_bytes page) ∷ [] = top in cc)
present A numbered (leaf k p es f) d low high page s top small =
    let some = in_use A d high (leaf k p es f) s p (inl refl) in
    subst (λ (n : ℕ). IsSome (A n)) (page_same A numbered p page some small (cell_payload k low (four_bytes p) (four_bytes page) (cells f) top)) some
present A numbered (inner k p c f) d low high page s top small =
    let some = in_use A d high (inner k p c f) s p (inl (inl refl)) in
    subst (λ (n : ℕ). IsSome (A n)) (page_same A numbered p page some small (cell_payload k low (four_bytes p) (four_bytes page) (cells f) top)) some

pub not_gone : (A : Array) (page : ℕ) → IsSome (A page) → A page ≡ None → ⊥
not_gone A page some gone = let bad = subst (λ (o : Option (List ℕ)). IsSome o) gone some in cc

-- the children of a full tree are full
pub children_full : (t : Forest) (d below : ℕ) (low : List ℕ) (page : ℕ) (c : Forest) → IsFull t ⊎ (d ≡ 0) → t ≡ inner low page c no_trees → d ≡ suc below → (1 < length (cells c)) × IsFull c
children_full t d below low page c full is deep = ⊎_elim
    (λ all. let here : IsFull (inner low page c no_trees) = subst (λ (x : Forest). IsFull x) is all in (here.0, here.1)) (λ zero. absurd (omega (arith, zero, deep))) full

-- the place of a key below an inner node
pub below_place : (A : Array) (t : Forest) (d : ℕ) (low : List ℕ) (high : Option (List ℕ)) (page : ℕ) (key : List ℕ) (levels : ℕ) → IsSubtree A (site_of t d low high) page key levels → (i : AtInner A t d low high page) → Place key high i.c
below_place A t d low high page key levels at i = find key high i.c low i.begins at.reaches at.ends

pub below_at : (A : Array) (t : Forest) (d : ℕ) (low : List ℕ) (high : Option (List ℕ)) (page : ℕ) (key : List ℕ) (levels child : ℕ) (at : IsSubtree A (site_of t d low high) page key levels) (i : AtInner A t d low high page)
    → (p : Place key high i.c) → four_bytes child ≡ child_in key i.head.1 i.rest → IsSubtree A (site_of p.at i.below p.from (next p.after high)) child key (levels - 1)
below_at A t d low high page key levels child at i p is =
    let s = placed A i.below key high i.c p i.sound in
    let full = children_full t d i.below low page i.c at.full i.is i.deep in
    record {
      sound = s.at_sound;
      top = p.top ∙ ap (λ (b : List ℕ). (p.from, b) ∷ []) (sym (is ∙ child_place A i.below key high i.c p s i.head i.rest i.cells_are));
      full = inl (full_left p.at p.after (full_right p.before (append p.at p.after) (subst (λ (x : Forest). IsFull x) p.whole full.1)));
      reaches = p.reaches;
      ends = p.ends;
      shallow = omega (arith, at.shallow, i.deep);
    }

-- look-ups in a leaf, and below an inner node
pub leaf_value : (t : Forest) (low : List ℕ) (page : ℕ) (bytes key : List ℕ) → (l : ReadLeaf t low page bytes) → value_for key (entries t) ≡ value_for key l.es
leaf_value t low page bytes key l = ap (λ (x : Forest). value_for key (entries x)) l.is ∙ ap (λ (xs : List Entry). value_for key xs) (append-nil l.es)

pub inner_value : (A : Array) (t : Forest) (d : ℕ) (low : List ℕ) (high : Option (List ℕ)) (page : ℕ) (key : List ℕ) (i : AtInner A t d low high page) (p : Place key high i.c) → value_for key (entries t) ≡ value_for key (entries p.at)
inner_value A t d low high page key i p =
    ap (λ (x : Forest). value_for key (entries x)) i.is ∙ (ap (λ (xs : List Entry). value_for key xs) (append-nil (entries i.c)) ∙ value_place A i.below key high i.c p (placed A i.below key high i.c p i.sound))

-- what stands in an array stands in one that holds the same
pub at_keep : (A B : Array) (t : Forest) (d : ℕ) (low : List ℕ) (high : Option (List ℕ)) (page : ℕ) (key : List ℕ) (levels : ℕ) → ((l : ℕ) → B l ≡ A l) → IsSubtree A (site_of t d low high) page key levels → IsSubtree B (site_of t d low high) page key levels
at_keep A B t d low high page key levels same at = record { sound = keep A B d high t (λ q m. same q) at.sound; top = at.top; full = at.full; reaches = at.reaches; ends = at.ends; shallow = at.shallow }

-- pages in use have numbers of 16 bits
pub numbered_of : {P : Type 0} (g : Ghosts P) (p : P) → (g.state p).sound → Numbered (g.state p).array
numbered_of g p sound = λ l some. g.numbered p l sound some

-- the node of a site
pub node_at : {P : Type 0} (g : Ghosts P) (p : P) → (g.state p).sound → (s : Site) (page : ℕ) (key : List ℕ) (levels : ℕ) → page < 2 ^ 32 → IsSubtree (g.state p).array s page key levels → HoldsNode (g.state p).array page
node_at g p sound s page key levels small at = holds_node (g.state p).array (numbered_of g p sound) s.tree s.depth s.low s.high page at.sound at.top small

-- a leaf that is read
pub leaf_at : {P : Type 0} (g : Ghosts P) (p : P) → (g.state p).sound → (s : Site) (page : ℕ) (key : List ℕ) (levels : ℕ) (bytes : List ℕ) → page < 2 ^ 32 → IsSubtree (g.state p).array s page key levels
    → (k : NodeKind) → HoldsAsRead (g.state p).array page k bytes → k ≡ Leaf → ReadLeaf s.tree s.low page bytes
leaf_at g p sound s page key levels bytes small at k reads is = leaf_read (g.state p).array (numbered_of g p sound) s.tree s.depth s.low s.high page key levels bytes small at k reads is

-- an inner node that is read
pub inner_at : {P : Type 0} (g : Ghosts P) (p : P) → (g.state p).sound → (s : Site) (page : ℕ) (key : List ℕ) (levels : ℕ) (bytes : List ℕ) → page < 2 ^ 32 → IsSubtree (g.state p).array s page key levels
    → (k : NodeKind) → HoldsAsRead (g.state p).array page k bytes → k ≡ Inner → ReadInner (g.state p).array s.tree s.depth s.low s.high page bytes
inner_at g p sound s page key levels bytes small at k reads is = inner_read (g.state p).array (numbered_of g p sound) s.tree s.depth s.low s.high page key levels bytes small at k reads is

-- One step down: an inner node is read, and the child of a key is found in it.
pub record Step (A B : Array) (s : Site) (page : ℕ) (key : List ℕ) (levels : ℕ) (bytes : List ℕ) (child : ℕ) : Type 0 where
  pub node : ReadInner A s.tree s.depth s.low s.high page bytes
  pub place : Place key s.high node.at.c
  pub there : IsSubtree B (site_of place.at node.at.below place.from (next place.after s.high)) child key (levels - 1)

pub step : {P : Type 0} (g : Ghosts P) (p q : P) → (g.state p).sound → (s : Site) (page : ℕ) (key : List ℕ) (levels : ℕ) (bytes : List ℕ) (child : ℕ) → page < 2 ^ 32 → IsSubtree (g.state p).array s page key levels
    → (k : NodeKind) → HoldsAsRead (g.state p).array page k bytes → k ≡ Inner → OnlyReads (g.state p) (g.state q)
    → ((first : List ℕ) (cs : List Entry) → IsNode Inner first cs bytes → four_bytes child ≡ child_in key first cs) → Step (g.state p).array (g.state q).array s page key levels bytes child
step g p q sound s page key levels bytes child small at k reads is only_reads branch =
    let A = (g.state p).array in
    let i = inner_at g p sound s page key levels bytes small at k reads is in
    let w = below_place A s.tree s.depth s.low s.high page key levels at i.at in
    let below = below_at A s.tree s.depth s.low s.high page key levels child at i.at w (branch i.at.head.1 i.at.rest i.node) in
    record { node = i; place = w; there = at_keep A (g.state q).array w.at i.at.below w.from (next w.after s.high) child key (levels - 1) only_reads.same below }

pub leaf_as : (xs ys : Forest) (key bytes : List ℕ) → value_for key (entries xs) ≡ value_for key (entries ys) → HasLeafOf key ys bytes → HasLeafOf key xs bytes
leaf_as xs ys key bytes same f = (f.0, f.1, same ∙ f.2)

pub read_none : (there at : Option (List ℕ)) (found : Option (Bor (List ℕ))) (value : List ℕ) → there ≡ at → lent_bytes found ≡ at → found ≡ None → IsLookedUp there false value
read_none there at found value same is gone =
    let all : there ≡ None = same ∙ (sym is ∙ ap (λ (o : Option (Bor (List ℕ))). lent_bytes o) gone) in rw all refl

pub has_value : (there at : Option (List ℕ)) (found : Option (Bor (List ℕ))) → there ≡ at → lent_bytes found ≡ at → is_some found ≡ is_some there
has_value there at None same is = ap (λ (o : Option (List ℕ)). is_some o) (is ∙ sym same)
has_value there at (Some one) same is = ap (λ (o : Option (List ℕ)). is_some o) (is ∙ sym same)

pub read_some : (there at : Option (List ℕ)) (found : Option (Bor (List ℕ))) (one : Bor (List ℕ)) (value : List ℕ) → there ≡ at → lent_bytes found ≡ at → found ≡ Some one → value ≡ one.now → IsLookedUp there true value
read_some there at found one value same is some filled =
    let all : there ≡ Some one.now = same ∙ (sym is ∙ ap (λ (o : Option (Bor (List ℕ))). lent_bytes o) some) in rw all (refl, filled)
