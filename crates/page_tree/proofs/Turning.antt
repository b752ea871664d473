-- One step down with the first of some changes, and what an inner node then follows.
use Rattle.std.proofs.Common.{◌≡◌, ℕ, suc, ◌^◌, ◌<◌, List, ◌∷◌, length, sym, ◌∙◌, subst}
use Rattle.pages.specs.declared.array.Pages.{Ghosts}
use Rattle.pages.specs.State.{Array, PagesState, OnlyReads}
use Rattle.page_nodes.specs.declared.cell.NodeKind.{NodeKind}
use Rattle.page_nodes.specs.declared.cell.NodeKind.TheVariants.{Inner}
use Rattle.page_nodes.specs.Map.{Entry}
use Rattle.page_nodes.specs.Node.{four_bytes, IsNode}
use Rattle.page_nodes.specs.Search.{child_in, cell_past}
use Rattle.store.specs.Records.{Changes}
use Rattle.page_tree.specs.Bounds.{IsBound, bound_past}
use Rattle.page_tree.specs.Changed.{Change, edited_in_turn, AreWithin}
use Rattle.page_tree.specs.Forest.{Forest, no_trees, inner, entries, next, Holds, Represents}
use Rattle.page_tree.specs.Removal.{Describes, Becomes, Surroundings, Surround, around, IsBetween}
use Rattle.page_tree.specs.Site.{Site, IsSubtree, site_of}
use Rattle.page_tree.specs.declared.bound.KeyBound.{KeyBound}
use Rattle.page_tree.specs.declared.removal.Underflow.{Underflow}
use Rattle.page_tree.proofs.Bounded.{bound_below, split_first}
use Rattle.page_tree.proofs.Depth.{root_site, root_at}
use Rattle.page_tree.proofs.Descent.{HoldsAsRead, Step, step, children_full, numbered_of}
use Rattle.page_tree.proofs.Edits.{in_turn_place, within_rest}
use Rattle.page_tree.proofs.Place.{placed}
use Rattle.page_tree.proofs.RemovalBelow.{inner_follow}

-- the site of the child that a step comes to
abbrev pub site_below : {A B : Array} {page levels : ℕ} {key bytes : List ℕ} {child : ℕ} → (s : Site) → Step A B s page key levels bytes child → Site
site_below s v = site_of v.place.at v.node.at.below v.place.from (next v.place.after s.high)

-- the child of a key is found, and the bound of its keys
pub record Turned (A B : Array) (s : Site) (page levels : ℕ) (key bytes : List ℕ) (child : ℕ) (bound : KeyBound) : Type 0 where
  pub down : Step A B s page key levels bytes child
  pub bound_is : IsBound bound (next down.place.after s.high)

pub turned : {P : Type 0} (g : Ghosts P) (p q : P) → (g.state p).sound → (s : Site) (page : ℕ) (key other : List ℕ) (levels : ℕ) (bytes : List ℕ) (child : ℕ) (bound : KeyBound) → page < 2 ^ 32 → IsSubtree (g.state p).array s page key levels
    → (kind : NodeKind) → HoldsAsRead (g.state p).array page kind bytes → kind ≡ Inner → OnlyReads (g.state p) (g.state q) → other ≡ key
    → ((first : List ℕ) (cs : List Entry) → IsNode Inner first cs bytes → (four_bytes child ≡ child_in other first cs) × IsBound bound (bound_past (cell_past other cs) s.high))
    → Turned (g.state p).array (g.state q).array s page levels key bytes child bound
turned g p q sound s page key other levels bytes child bound small at kind reads is only_reads same found =
    let v = step g p q sound s page key levels bytes child small at kind reads is only_reads (λ first cs node. subst (λ (k : List ℕ). four_bytes child ≡ child_in k first cs) same (found first cs node).0) in
    let i = v.node.at in
    let there = placed (g.state p).array i.below key s.high i.c v.place i.sound in
    let past = subst (λ (k : List ℕ). IsBound bound (bound_past (cell_past k i.rest) s.high)) same (found i.head.1 i.rest v.node.node).1 in
    record { down = v; bound_is = sym (bound_below (g.state p).array i.below key s.high i.c v.place there i.head i.rest i.cells_are) ∙ past }

-- what an inner node stands on whose child changes have turned into other trees
pub record Following (S T : PagesState) (s : Site) (page child : ℕ) (low key : List ℕ) (cs : Changes) (left : Underflow) (separator : List ℕ) : Type 1 where
  pub sound : T.sound
  pub trees : Forest
  pub w : Surroundings
  pub deep : s.depth ≡ suc w.depth
  pub beside : Surround T.array w page key child
  pub described : Describes left T.array w.depth w.from (next w.after w.high) child separator trees
  pub between : IsBetween page w.before trees w.after
  pub holds : Holds T.array page Inner w.first (w.c ∷ w.cs)
  pub within : AreWithin low s.high cs
  pub above : (U : PagesState) (up : Underflow) (later : List ℕ)
      → Becomes T U (inner w.low page (around w trees) no_trees) (entries (around w trees)) (λ f. Describes up U.array (suc w.depth) w.low w.high page later f)
      → Becomes S U s.tree (edited_in_turn cs (entries s.tree)) (λ f. Describes up U.array s.depth s.low s.high page later f)

pub following : {P : Type 0} (g : Ghosts P) (p q r : P) → (g.state p).sound → (s : Site) (page levels : ℕ) (key other bytes : List ℕ) (child : ℕ) (bound : KeyBound) → child < 2 ^ 32 → IsSubtree (g.state p).array s page key levels
    → OnlyReads (g.state p) (g.state q) → other ≡ key → (t : Turned (g.state p).array (g.state q).array s page levels key bytes child bound) → (cs : Changes) (left : Underflow) (separator : List ℕ)
    → AreWithin key (site_below s t.down).high cs × Becomes (g.state q) (g.state r) (site_below s t.down).tree (edited_in_turn cs (entries (site_below s t.down).tree))
    (λ f. Describes left (g.state r).array (site_below s t.down).depth (site_below s t.down).low (site_below s t.down).high child separator f)
    → Following (g.state p) (g.state r) s page child key other cs left separator
following g p q r sound s page levels key other bytes child bound small at only_reads same t cs left separator made =
    let A = (g.state p).array in
    let i = t.down.node.at in
    let v = t.down.place in
    let there = placed A i.below key s.high i.c v i.sound in
    let full = children_full s.tree s.depth i.below s.low page i.c at.full i.is i.deep in
    let f = inner_follow (g.state p) (g.state q) (g.state r) s.tree s.depth s.low s.high page key child (numbered_of g p sound) small at.sound i v full.0 full.1 t.down.there.top only_reads _
    (λ (es : List Entry). edited_in_turn cs es) (in_turn_place A i.below key s.high i.c v there cs made.0) made.1 in
    let w : Surroundings = record { depth = i.below; low = s.low; high = s.high; first = i.head.1; c = f.c; cs = f.cs; from = v.from; before = v.before; after = v.after } in record {
      sound = made.1.sound;
      trees = made.1.trees;
      w = w;
      deep = i.deep;
      beside = subst (λ (k : List ℕ). Surround (g.state r).array w page k child) (sym same) f.around;
      described = made.1.result;
      between = f.between;
      holds = f.holds;
      within = within_rest A i.below key s.high v.after cs there.after_sound made.0;
      above = λ U up later b. subst (λ (n : ℕ). Becomes (g.state p) U s.tree (edited_in_turn cs (entries s.tree)) (λ u. Describes up U.array n s.low s.high page later u)) (sym i.deep)
          (f.above U (λ u. Describes up U.array (suc i.below) s.low s.high page later u) b);
    }

-- the tree of a map, from its root on, and the first of some changes
pub record Begun (A : Array) (map : List Entry) (represents : Represents map A) (changes : Changes) : Type 0 where
  pub first : Change
  pub rest : Changes
  pub whole : changes ≡ first ∷ rest
  pub at : IsSubtree A (root_site A map represents) 0 first.0 17

pub begun : {P : Type 0} (g : Ghosts P) (p : P) → (g.state p).sound → (map : List Entry) (represents : Represents map (g.state p).array) (changes : Changes) → 0 < length changes → Begun (g.state p).array map represents changes
begun g p sound map represents changes some =
    let parts = split_first changes some in
    record { first = parts.0; rest = parts.1; whole = parts.2; at = root_at (g.state p).array map parts.0.0 (numbered_of g p sound) represents }
