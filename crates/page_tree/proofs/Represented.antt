-- What an array that represents a map says of the map, and when it represents one.
use Rattle.std.proofs.Common.{◌≡◌, inl, inr, ℕ, true, Option, Some, None, List, [], ◌∷◌, ◌++◌, refl, sym, subst, ◌∙◌, arith}
use Rattle.std.specs.Prelude.{IsSome}
use Rattle.std.proofs.Math.Path.{fun_ext}
use Rattle.std.proofs.lemmas.List.{append-nil}
use Rattle.pages.specs.State.{Array}
use Rattle.page_nodes.specs.declared.cell.NodeKind.TheVariants.{Leaf}
use Rattle.page_nodes.specs.Map.{is_below, Entry, AllAbove, IsRising}
use Rattle.page_nodes.specs.Node.{IsNode}
use Rattle.page_nodes.proofs.Order.{lt_le, below_none}
use Rattle.page_tree.specs.Forest.{Forest, no_trees, leaf, inner, entries, AllFrom, AllUnder, next, IsSound, Represents}
use Rattle.page_tree.specs.Walk.{HasFewPages}
use Rattle.page_tree.proofs.Bounds.{begin, first_key, all_under, all_from}
use Rattle.page_tree.proofs.Descent.{holds_node}
use Rattle.page_tree.proofs.Walk.{records_met}

-- entries below a key, and entries from it on
above_joined : (key k : List ℕ) (xs ys : List Entry) → AllAbove key xs → is_below key k ≡ true → AllFrom k ys → AllAbove key (xs ++ ys)
above_joined key k [] [] all lt from = tt
above_joined key k [] (y ∷ ys) all lt from = (lt_le key k y.0 lt from.0, above_joined key k [] ys tt lt from.1)
above_joined key k (x ∷ xs) ys all lt from = (all.0, above_joined key k xs ys all.1 lt from)

pub rising_joined : (k : List ℕ) (xs ys : List Entry) → IsRising xs → IsRising ys → AllUnder (Some k) xs → AllFrom k ys → IsRising (xs ++ ys)
rising_joined k [] ys front rest under from = rest
rising_joined k (x ∷ xs) ys front rest under from = (above_joined x.0 k xs ys front.0 under.0 from, rising_joined k xs ys front.1 rest under.1 from)

-- entries before those of the trees
rising_before : (A : Array) (d : ℕ) (high : Option (List ℕ)) (es : List Entry) (f : Forest) → IsSound A d high f → IsRising es → AllUnder (next f high) es → IsRising (entries f)
    → IsRising (es ++ entries f)
rising_before A d high es f s front under rest = elim (begin f) [
  | inl none ↦ subst (λ (g : Forest). IsRising (es ++ entries g)) (sym none) (subst (λ (xs : List Entry). IsRising xs) (sym (append-nil es)) front)
  | inr some ↦ rising_joined some.0 es (entries f) front rest (subst (λ (h : Option (List ℕ)). AllUnder h es) (first_key f some.0 high some.1) under) (all_from A d high f some.0 s some.1)
]

entries_rise : (A : Array) (d : ℕ) (high : Option (List ℕ)) (f : Forest) → IsSound A d high f → IsRising (entries f)
entries_rise A d high no_trees s = tt
entries_rise A d high (leaf k p es f) s = rising_before A d high es f s.5 s.2.2 s.2.1 (entries_rise A d high f s.5)
entries_rise A d high (inner k p c f) s =
    rising_before A d high (entries c) f s.6 (entries_rise A s.2.0 (next f high) c s.2.2) (all_under A s.2.0 (next f high) c s.2.2) (entries_rise A d high f s.6)

pub map_rises : (A : Array) (map : List Entry) → Represents map A → IsRising map
map_rises A map s = subst (λ (es : List Entry). IsRising es) s.entries_are (entries_rise A s.is_tree.depth None s.tree s.is_tree.sound)

pub one_map : (A : Array) (map other : List Entry) → HasFewPages A → Represents map A → Represents other A → map ≡ other
one_map A map other few first second = sym (records_met A map few first) ∙ records_met A other few second

pub map_of_same : (A B : Array) (map : List Entry) → ((l : ℕ) → A l ≡ B l) → Represents map A → Represents map B
map_of_same A B map same s = subst (λ (x : Array). Represents map x) (fun_ext same) s

-- the root is in use
pub root_used : (A : Array) (map : List Entry) → HasFewPages A → Represents map A → IsSome (A 0)
root_used A map few s =
    let at = holds_node A few s.tree s.is_tree.depth [] None 0 s.is_tree.sound s.is_tree.root (omega arith) in
    rw at.holds.1 refl

-- a leaf alone
from_none : (es : List Entry) → AllFrom [] es
from_none [] = tt
from_none (e ∷ es) = (below_none e.0, from_none es)

under_none : (es : List Entry) → AllUnder None es
under_none [] = tt
under_none (e ∷ es) = (tt, under_none es)

pub leaf_is_tree : (A : Array) (es : List Entry) (bytes : List ℕ) → A 0 ≡ Some bytes → ((l : ℕ) → IsSome (A l) → l ≡ 0) → IsNode Leaf [] es bytes → IsRising es → Represents es A
leaf_is_tree A es bytes here only node rising = record {
  tree = leaf [] 0 es no_trees;
  is_tree = record {
    depth = 0;
    sound = ((bytes, here, node), refl, (from_none es, under_none es, rising), tt, (λ none. none), tt);
    root = refl;
    full = inr refl;
    only = λ q some. inl (only q some);
  };
  entries_are = append-nil es;
}
