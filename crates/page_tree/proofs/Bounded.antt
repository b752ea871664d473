-- The bound below the place of a key.
use Rattle.std.proofs.Common.{◌≡◌, ℕ, ◌<◌, false, Option, Some, None, List, [], ◌∷◌, ◌++◌, length, take, get_or, refl, sym, ap, ◌∙◌, subst, arith}
use Rattle.std.specs.Prelude.{IsSome}
use Rattle.pages.specs.State.{Array}
use Rattle.page_nodes.specs.Map.{is_below, Entry, with_entry, edited}
use Rattle.page_nodes.specs.Node.{four_bytes}
use Rattle.page_nodes.specs.Search.{cell_past}
use Rattle.page_nodes.proofs.Order.{one_way, lt_le}
use Rattle.store.specs.Records.{Changes}
use Rattle.page_tree.specs.Bounds.{bound_past}
use Rattle.page_tree.specs.Changed.{Change, edited_in_turn}
use Rattle.page_tree.specs.Forest.{Forest, no_trees, leaf, inner, cells, IsUnder, AllUnder, next, Represents}
use Rattle.page_tree.proofs.Trees.{keep}
use Rattle.page_tree.proofs.Bounds.{cells_under}
use Rattle.page_tree.proofs.Place.{Place, Placed, cells_around}

module _ (key : List ℕ) where
  past_there : (bs : List Entry) (c : Entry) (hs : List Entry) → is_below key c.0 ≡ false → AllUnder (Some c.0) bs → cell_past key (bs ++ (c ∷ hs)) ≡ cell_past key hs
  past_there [] c hs reaches under = rw reaches refl
  past_there (b ∷ bs) c hs reaches under = rw (one_way b.0 key (lt_le b.0 c.0 key under.0 reaches)) (past_there bs c hs reaches under.1)

  past_is : (cs : List Entry) (first : Entry) (bs : List Entry) (c : Entry) (hs : List Entry) → first ∷ cs ≡ bs ++ (c ∷ hs) → is_below key c.0 ≡ false → AllUnder (Some c.0) bs → cell_past key cs ≡ cell_past key hs
  past_is cs first [] c hs e reaches under = let tail : cs ≡ hs = cc in rw tail refl
  past_is cs first (b ∷ bs) c hs e reaches under = let tail : cs ≡ bs ++ (c ∷ hs) = cc in rw tail (past_there bs c hs reaches under.1)

  past_after : (high : Option (List ℕ)) (after : Forest) → IsUnder key (next after high) → bound_past (cell_past key (cells after)) high ≡ next after high
  past_after high no_trees under = refl
  past_after high (leaf k p es f) under = rw under refl
  past_after high (inner k p c f) under = rw under refl

-- the cell after the place of a key bounds the keys there
pub bound_below : (A : Array) (d : ℕ) (key : List ℕ) (high : Option (List ℕ)) (f : Forest) (p : Place key high f) → Placed A d key high f p → (head : Entry) (rest : List Entry) → cells f ≡ head ∷ rest → bound_past (cell_past key rest) high ≡ next p.after high
bound_below A d key high f p s head rest e =
    let whole : head ∷ rest ≡ cells p.before ++ ((p.from, four_bytes p.page) ∷ cells p.after) =
    sym e ∙ (ap (λ (x : Forest). cells x) p.whole ∙ cells_around p.before p.at p.after (p.from, four_bytes p.page) p.top) in
    ap (λ (o : Option Entry). bound_past o high) (past_is key rest head (cells p.before) (p.from, four_bytes p.page) (cells p.after) whole p.reaches (cells_under A d (Some p.from) p.before s.before_sound))
    ∙ past_after key high p.after p.ends

-- the first of some changes
pub split_first : (cs : Changes) → 0 < length cs → (first : Change) × (rest : Changes) × (cs ≡ first ∷ rest)
split_first [] some = absurd (omega (arith, some))
split_first (c ∷ cs) some = (c, cs, refl)

-- what an array represents, another one represents that holds the same
abbrev pub still_represents : (A B : Array) (map : List Entry) → ((l : ℕ) → B l ≡ A l) → Represents map A → Represents map B
still_represents A B map same s = record {
  tree = s.tree;
  is_tree = record {
    depth = s.is_tree.depth;
    sound = keep A B s.is_tree.depth None s.tree (λ q m. same q) s.is_tree.sound;
    root = s.is_tree.root;
    full = s.is_tree.full;
    only = λ q some. s.is_tree.only q (subst (λ (o : Option (List ℕ)). IsSome o) (same q) some);
  };
  entries_are = s.entries_are;
}

-- the put of the first of some changes
pub put_is : (map : List Entry) (first : Change) (rest changes : Changes) → changes ≡ first ∷ rest → (c : Change) → c ≡ get_or changes 0 c → (key value : List ℕ) → key ≡ c.0 → c.1 ≡ Some value → with_entry key value map ≡ edited_in_turn (take 1 changes) map
put_is map first rest changes whole c is key value key_is value_is =
    let same : c ≡ first = is ∙ ap (λ (cs : Changes). get_or cs 0 c) whole in
    let one : edited_in_turn (take 1 changes) map ≡ edited first.0 first.1 map = ap (λ (cs : Changes). edited_in_turn (take 1 cs) map) whole in
    ap (λ (k : List ℕ). with_entry k value map) key_is ∙ (ap (λ (v : Option (List ℕ)). edited c.0 v map) (sym value_is) ∙ (ap (λ (d : Change). edited d.0 d.1 map) same ∙ sym one))
