-- The outcome of the calls of a removal, where the pages are sound.
use Rattle.std.specs.Prelude.{◌≡◌, ℕ, suc, Option, None, Result, MatchResult, IsSome, List, [], ◌∷◌}
use Rattle.pages.specs.declared.array.PageFault.{PageFault}
use Rattle.pages.specs.declared.array.PageFault.TheVariants.{Memory}
use Rattle.pages.specs.declared.array.Pages.{Ghosts}
use Rattle.page_nodes.specs.declared.cell.NodeKind.{NodeKind}
use Rattle.page_nodes.specs.declared.cell.NodeKind.TheVariants.{Inner}
use Rattle.page_nodes.specs.declared.search.Pair.{Pair}
use Rattle.page_nodes.specs.Map.{Entry}
use Rattle.page_nodes.specs.Node.{four_bytes, IsNode}
use Rattle.page_nodes.specs.Search.{pair_from}
use Rattle.page_tree.specs.Forest.{Forest, no_trees, inner, append, entries, MeetsAll, next, Holds, Represents}
use Rattle.page_tree.specs.Puts.{AreInScratch, AreWritten, made_cells}
use Rattle.page_tree.specs.Removal.{SpellsTrees, Describes, Becomes, IsParent, Surroundings, Surround, AreNodeOf, around, IsBetween, IsRest, IsJoined, HasNoEntry, HasOneChild}
use Rattle.page_tree.specs.Calls.{Gives}
use Rattle.page_tree.specs.declared.removal.Underflow.{Underflow}
use Rattle.page_tree.specs.declared.removal.Rest.{Rest}

-- a page in use gets the node that has these cells
abbrev pub WritesCells : {P : Type 0} (g : Ghosts P) (old new : P) (page : ℕ) (kind : NodeKind) (first cells : List ℕ) (count : ℕ)
    (result : Result (Unit {0}) PageFault) → Type 0
WritesCells g old new page kind first cells count result =
    (g.state old).sound → IsSome ((g.state old).array page) → (cs : List Entry) → AreInScratch kind cs cells count
    → Gives g old new result (λ _. (g.state new).sound × AreWritten kind first cs page (g.state old).array (g.state new).array)

-- the child of a key is found beside its neighbour
abbrev pub PairsChildren : (bytes key : List ℕ) (result : Result Pair PageFault) → Type 0
PairsChildren bytes key result =
    (first : List ℕ) (c : Entry) (cs : List Entry) → IsNode Inner first (c ∷ cs) bytes
    → MatchResult result (λ p. let pair = pair_from key first c cs in
    (four_bytes p.left ≡ pair.0) × (p.key.now ≡ pair.1.0) × (four_bytes p.right ≡ pair.1.1)) (λ f. ⊥)

-- an inner node is copied to scratch without the child of a key
abbrev pub CopiesRest : (bytes key : List ℕ) (child : ℕ) (scratch : List ℕ) (result : Result Rest PageFault) → Type 0
CopiesRest bytes key child scratch result =
    (first : List ℕ) (c : Entry) (cs : List Entry) → IsNode Inner first (c ∷ cs) bytes
    → MatchResult result (λ rest. IsRest first c cs key child rest.first scratch rest.count) (λ f. f ≡ Memory)

-- a page gets the inner node that has a first child and the cells in scratch, unless there are none
abbrev pub StoresRest : {P : Type 0} (g : Ghosts P) (old new : P) (page : ℕ) (rest : Rest) (scratch separator : List ℕ) (result : Result Underflow PageFault)
    → Type 0
StoresRest g old new page rest scratch separator result =
    (g.state old).sound → (d : ℕ) (low : List ℕ) (high : Option (List ℕ)) (cs : List Entry) (children : Forest)
    → IsParent (g.state old).array page d low high (four_bytes rest.first) cs children → AreInScratch Inner cs scratch rest.count
    → Gives g old new result (λ u. Becomes (g.state old) (g.state new) (inner low page children no_trees) (entries children)
    (λ f. Describes u (g.state new).array (suc d) low high page separator f))

-- the child of a key, of which nothing is left, is taken from an inner node
abbrev pub RemovesChild : {P : Type 0} (g : Ghosts P) (old new : P) (page child : ℕ) (bytes key separator : List ℕ) (result : Result Underflow PageFault)
    → Type 0
RemovesChild g old new page child bytes key separator result =
    (g.state old).sound → (w : Surroundings) → w.depth ≡ 0 → Surround (g.state old).array w page key child → AreNodeOf w bytes
    → Gives g old new result (λ u. Becomes (g.state old) (g.state new) (inner w.low page (append w.before w.after) no_trees) (entries (append w.before w.after))
    (λ f. Describes u (g.state new).array (suc w.depth) w.low w.high page separator f))

-- a child is put before the children of the inner node that a page holds, which are from the key on
abbrev pub JoinsBefore : {P : Type 0} (g : Ghosts P) (old new : P) (page child : ℕ) (key separator : List ℕ) (result : Result (Option ℕ) PageFault) → Type 0
JoinsBefore g old new page child key separator result =
    (g.state old).sound → (d : ℕ) (low : List ℕ) (high : Option (List ℕ)) (first : List ℕ) (cs : List Entry) (children : Forest)
    → IsParent (g.state old).array page d low high (four_bytes child) ((key, first) ∷ cs) children → Holds (g.state old).array page Inner first cs
    → Gives g old new result (λ made. Becomes (g.state old) (g.state new) (inner low page children no_trees) (entries children)
    (λ f. SpellsTrees (g.state new).array (suc d) high ((low, four_bytes page) ∷ made_cells separator made) f))

-- the one child that is left of the child of a key is put under the neighbour
abbrev pub JoinsNeighbour : {P : Type 0} (g : Ghosts P) (old new : P) (child left : ℕ) (bytes key separator : List ℕ) (result : Result (Option ℕ) PageFault)
    → Type 0
JoinsNeighbour g old new child left bytes key separator result =
    (g.state old).sound → (w : Surroundings) (page : ℕ) (lone : Forest) (below : ℕ) → w.depth ≡ suc below → Surround (g.state old).array w page key child
    → AreNodeOf w bytes → SpellsTrees (g.state old).array below (next w.after w.high) ((w.from, four_bytes left) ∷ []) lone
    → IsBetween page w.before lone w.after
    → Gives g old new result (λ made. Becomes (g.state old) (g.state new) (around w lone) (entries (around w lone))
    (λ f. IsJoined (g.state new).array w.depth w.low w.high w.first w.c w.cs key child made separator f))

-- the same, and the child of the key is taken from its inner node
abbrev pub MergesChild : {P : Type 0} (g : Ghosts P) (old new : P) (page child left : ℕ) (bytes key separator : List ℕ) (result : Result Underflow PageFault)
    → Type 0
MergesChild g old new page child left bytes key separator result =
    (g.state old).sound → (w : Surroundings) (lone : Forest) (below : ℕ) → w.depth ≡ suc below → Surround (g.state old).array w page key child
    → AreNodeOf w bytes → SpellsTrees (g.state old).array below (next w.after w.high) ((w.from, four_bytes left) ∷ []) lone
    → IsBetween page w.before lone w.after
    → Gives g old new result (λ u. Becomes (g.state old) (g.state new) (inner w.low page (around w lone) no_trees) (entries (around w lone))
    (λ f. Describes u (g.state new).array (suc w.depth) w.low w.high page separator f))

-- an inner node is changed as the child of a key has changed
abbrev pub FollowsChild : {P : Type 0} (g : Ghosts P) (old new : P) (page child : ℕ) (underflow : Underflow) (key made later : List ℕ)
    (result : Result Underflow PageFault) → Type 0
FollowsChild g old new page child underflow key made later result =
    (g.state old).sound → (w : Surroundings) (between : Forest) → Surround (g.state old).array w page key child
    → Describes underflow (g.state old).array w.depth w.from (next w.after w.high) child made between → IsBetween page w.before between w.after
    → Holds (g.state old).array page Inner w.first (w.c ∷ w.cs)
    → Gives g old new result (λ u. Becomes (g.state old) (g.state new) (inner w.low page (around w between) no_trees) (entries (around w between))
    (λ f. Describes u (g.state new).array (suc w.depth) w.low w.high page later f))

-- the root, of which no entry is left, becomes an empty leaf
abbrev pub ClearsRoot : {P : Type 0} (g : Ghosts P) (old new : P) (result : Result (Unit {0}) PageFault) → Type 0
ClearsRoot g old new result =
    (g.state old).sound → IsSome ((g.state old).array 0)
    → Gives g old new result (λ _. (d : ℕ) (f : Forest) → HasNoEntry (g.state old).array d [] 0 f → MeetsAll (g.state old).array f
    → (g.state new).sound × Represents (entries f) (g.state new).array)

-- the root gets the content of its only child
abbrev pub CollapsesRoot : {P : Type 0} (g : Ghosts P) (old new : P) (child : ℕ) (result : Result (Unit {0}) PageFault) → Type 0
CollapsesRoot g old new child result =
    (g.state old).sound → (d : ℕ) (f : Forest) → HasOneChild (g.state old).array d [] None 0 child f
    → Gives g old new result (λ _. MeetsAll (g.state old).array f → (g.state new).sound × Represents (entries f) (g.state new).array)

-- what changes have left of a tree becomes one tree at the root
abbrev pub SettlesRoot : {P : Type 0} (g : Ghosts P) (old new : P) (left : Underflow) (separator : List ℕ) (result : Result (Unit {0}) PageFault) → Type 0
SettlesRoot g old new left separator result =
    (g.state old).sound → (d : ℕ) (f : Forest) → Describes left (g.state old).array d [] None 0 separator f → MeetsAll (g.state old).array f
    → Gives g old new result (λ _. (g.state new).sound × Represents (entries f) (g.state new).array)
