-- The walk of a tree meets the entries of its leaves.
use Rattle.std.proofs.Common.{◌≡◌, ◌<◌, ◌≤◌, ◌+◌, ℕ, zero, suc, List, [], ◌∷◌, ◌++◌, Option, Some, None, length, take, drop, refl, sym, ap, ◌∙◌, subst, append_assoc, arith}
use Rattle.std.specs.List.{flat_map}
use Rattle.std.proofs.lemmas.List.{take_at, drop_at, length-append, drop-drop, append-nil}
use Rattle.byteorder.specs.Endian.{big_number}
use Rattle.byteorder.specs.Numbers.{big_number-reads_back}
use Rattle.pages.specs.State.{Array}
use Rattle.page_nodes.specs.declared.cell.NodeKind.{NodeKind}
use Rattle.page_nodes.specs.declared.cell.NodeKind.TheVariants.{Leaf, Inner}
use Rattle.page_nodes.specs.Map.{Entry}
use Rattle.page_nodes.specs.Node.{two_bytes, four_bytes, HasSizes, cell_bytes, cells_bytes, front_bytes, zeros_after, IsNode}
use Rattle.page_tree.specs.Forest.{Forest, no_trees, leaf, inner, cells, entries, Holds, HoldsChildren, IsSound, Represents}
use Rattle.page_tree.specs.Walk.{leaf_cells, inner_cells, leaf_in, children_in, child_page, records_in, records_below, records_of}
use Rattle.page_tree.proofs.Depth.{shallow}
use Rattle.page_tree.proofs.Descent.{Numbered}

-- ---- cells

-- a key and a value, with what stands behind them
leaf_cell : (k v rest : List ℕ) → cell_bytes Leaf (k, v) ++ rest ≡ two_bytes (length k) ++ (two_bytes (length v) ++ (k ++ (v ++ rest)))
unfolding cell_bytes
leaf_cell k v rest = ap (λ (xs : List ℕ). two_bytes (length k) ++ (two_bytes (length v) ++ xs)) (append_assoc k v rest)

inner_cell : (k v rest : List ℕ) → cell_bytes Inner (k, v) ++ rest ≡ two_bytes (length k) ++ (v ++ (k ++ rest))
unfolding cell_bytes
inner_cell k v rest = ap (λ (xs : List ℕ). two_bytes (length k) ++ xs) (append_assoc v k rest)

-- the parts of a leaf's cell
leaf_cell_read : (count : ℕ) (k v rest bytes : List ℕ) → length k ≤ 205 → length v ≤ 1200 → bytes ≡ two_bytes (length k) ++ (two_bytes (length v) ++ (k ++ (v ++ rest)))
    → leaf_cells (suc count) bytes ≡ (k, v) ∷ leaf_cells count rest
unfolding leaf_cells
leaf_cell_read count k v rest bytes small few is =
    let spelled : List ℕ = two_bytes (length k) ++ (two_bytes (length v) ++ (k ++ (v ++ rest))) in
    let key_size : big_number 2 spelled ≡ length k = big_number-reads_back 2 (length k) (two_bytes (length v) ++ (k ++ (v ++ rest))) (omega (arith, small)) in
    let value_size : big_number 2 (drop 2 spelled) ≡ length v = big_number-reads_back 2 (length v) (k ++ (v ++ rest)) (omega (arith, few)) in
    let key : take (length k) (drop 4 spelled) ≡ k = take_at k (v ++ rest) (length k) refl in
    let at_value : drop (4 + length k) spelled ≡ v ++ rest = sym (drop-drop (length k) 4 spelled) ∙ drop_at k (v ++ rest) (length k) refl in
    let value : take (length v) (drop (4 + length k) spelled) ≡ v = ap (take (length v)) at_value ∙ take_at v rest (length v) refl in
    let behind : drop (4 + length k + length v) spelled ≡ rest = sym (drop-drop (length v) (4 + length k) spelled) ∙ ap (drop (length v)) at_value ∙ drop_at v rest (length v) refl in
    rw (is, key_size, value_size, key, value, behind) refl

inner_cell_read : (count : ℕ) (k v rest bytes : List ℕ) → length k ≤ 205 → length v ≡ 4 → bytes ≡ two_bytes (length k) ++ (v ++ (k ++ rest))
    → inner_cells (suc count) bytes ≡ (k, v) ∷ inner_cells count rest
unfolding inner_cells
inner_cell_read count k v rest bytes small four is =
    let spelled : List ℕ = two_bytes (length k) ++ (v ++ (k ++ rest)) in
    let key_size : big_number 2 spelled ≡ length k = big_number-reads_back 2 (length k) (v ++ (k ++ rest)) (omega (arith, small)) in
    let child : take 4 (drop 2 spelled) ≡ v = take_at v (k ++ rest) 4 four in
    let at_key : drop 6 spelled ≡ k ++ rest = sym (drop-drop 4 2 spelled) ∙ drop_at v (k ++ rest) 4 four in
    let key : take (length k) (drop 6 spelled) ≡ k = ap (take (length k)) at_key ∙ take_at k rest (length k) refl in
    let behind : drop (6 + length k) spelled ≡ rest = sym (drop-drop (length k) 6 spelled) ∙ ap (drop (length k)) at_key ∙ drop_at k rest (length k) refl in
    rw (is, key_size, key, child, behind) refl

no_leaf_cells : (rest : List ℕ) → leaf_cells 0 rest ≡ []
unfolding leaf_cells
no_leaf_cells rest = refl

leaf_cells_read : (es : List Entry) (rest : List ℕ) → HasSizes Leaf es → leaf_cells (length es) (cells_bytes Leaf es ++ rest) ≡ es
leaf_cells_read [] rest s = no_leaf_cells rest
leaf_cells_read ((k, v) ∷ es) rest s =
    let joined : (cell_bytes Leaf (k, v) ++ cells_bytes Leaf es) ++ rest ≡ two_bytes (length k) ++ (two_bytes (length v) ++ (k ++ (v ++ (cells_bytes Leaf es ++ rest)))) =
    append_assoc (cell_bytes Leaf (k, v)) (cells_bytes Leaf es) rest ∙ leaf_cell k v (cells_bytes Leaf es ++ rest) in
    leaf_cell_read (length es) k v (cells_bytes Leaf es ++ rest) ((cell_bytes Leaf (k, v) ++ cells_bytes Leaf es) ++ rest) s.0.1 s.1 joined
    ∙ ap (λ (xs : List Entry). (k, v) ∷ xs) (leaf_cells_read es rest s.2)

no_inner_cells : (rest : List ℕ) → inner_cells 0 rest ≡ []
unfolding inner_cells
no_inner_cells rest = refl

inner_cells_read : (es : List Entry) (rest : List ℕ) → HasSizes Inner es → inner_cells (length es) (cells_bytes Inner es ++ rest) ≡ es
inner_cells_read [] rest s = no_inner_cells rest
inner_cells_read ((k, v) ∷ es) rest s =
    let joined : (cell_bytes Inner (k, v) ++ cells_bytes Inner es) ++ rest ≡ two_bytes (length k) ++ (v ++ (k ++ (cells_bytes Inner es ++ rest))) =
    append_assoc (cell_bytes Inner (k, v)) (cells_bytes Inner es) rest ∙ inner_cell k v (cells_bytes Inner es ++ rest) in
    inner_cell_read (length es) k v (cells_bytes Inner es ++ rest) ((cell_bytes Inner (k, v) ++ cells_bytes Inner es) ++ rest) s.0.1 s.1 joined
    ∙ ap (λ (xs : List Entry). (k, v) ∷ xs) (inner_cells_read es rest s.2)

-- ---- nodes

cell_more : (kind : NodeKind) (c : Entry) → 1 ≤ length (cell_bytes kind c)
unfolding cell_bytes
cell_more Leaf c = omega arith
cell_more Inner c = omega arith

cells_more : (kind : NodeKind) (cs : List Entry) → length cs ≤ length (cells_bytes kind cs)
cells_more kind [] = omega arith
cells_more kind (c ∷ cs) = omega (arith, cell_more kind c, cells_more kind cs, length-append (cell_bytes kind c) (cells_bytes kind cs))

leaf_spelled : (es : List Entry) (zeros : List ℕ) → HasSizes Leaf es → length es < 65536 → leaf_in (front_bytes Leaf [] es ++ zeros) ≡ es
leaf_spelled es zeros s few =
    let count : big_number 2 (drop 2 (front_bytes Leaf [] es ++ zeros)) ≡ length es = big_number-reads_back 2 (length es) (cells_bytes Leaf es ++ zeros) (omega (arith, few)) in
    ap (λ (n : ℕ). leaf_cells n (cells_bytes Leaf es ++ zeros)) count ∙ leaf_cells_read es zeros s

inner_spelled : (first : List ℕ) (cs : List Entry) (zeros : List ℕ) → length first ≡ 4 → HasSizes Inner cs → length cs < 65536
    → children_in (front_bytes Inner first cs ++ zeros) ≡ ([], first) ∷ cs
inner_spelled first cs zeros size s few =
    let behind : List ℕ = cells_bytes Inner cs ++ zeros in
    let joined : drop 4 (front_bytes Inner first cs ++ zeros) ≡ first ++ behind = append_assoc first (cells_bytes Inner cs) zeros in
    let child : take 4 (drop 4 (front_bytes Inner first cs ++ zeros)) ≡ first = ap (take 4) joined ∙ take_at first behind 4 size in
    let rest : drop 8 (front_bytes Inner first cs ++ zeros) ≡ behind =
    sym (drop-drop 4 4 (front_bytes Inner first cs ++ zeros)) ∙ ap (drop 4) joined ∙ drop_at first behind 4 size in
    let count : big_number 2 (drop 2 (front_bytes Inner first cs ++ zeros)) ≡ length cs = big_number-reads_back 2 (length cs) ((first ++ cells_bytes Inner cs) ++ zeros) (omega (arith, few)) in
    ap (λ (x : List ℕ). ([], x) ∷ inner_cells (big_number 2 (drop 2 (front_bytes Inner first cs ++ zeros))) (drop 8 (front_bytes Inner first cs ++ zeros))) child
    ∙ ap (λ (n : ℕ). ([], first) ∷ inner_cells n (drop 8 (front_bytes Inner first cs ++ zeros))) count
    ∙ ap (λ (xs : List ℕ). ([], first) ∷ inner_cells (length cs) xs) rest
    ∙ ap (λ (xs : List Entry). ([], first) ∷ xs) (inner_cells_read cs zeros s)

few_cells : (kind : NodeKind) (first : List ℕ) (cs : List Entry) → length (front_bytes kind first cs) ≤ 4096 → length cs < 65536
few_cells kind first cs fits = omega (arith, fits, cells_more kind cs, length-append first (cells_bytes kind cs))

leaf_records : (es : List Entry) (bytes : List ℕ) (below : Entry → List Entry) → IsNode Leaf [] es bytes → records_in (Some bytes) below ≡ es
leaf_records es bytes below n =
    subst (λ (bs : List ℕ). records_in (Some bs) below ≡ es) (sym n.spelled) (leaf_spelled es (zeros_after Leaf [] es) n.sizes (few_cells Leaf [] es n.fits))

inner_node_records : (first : List ℕ) (cs : List Entry) (bytes : List ℕ) (below : Entry → List Entry) → IsNode Inner first cs bytes → records_in (Some bytes) below ≡ flat_map below (([], first) ∷ cs)
inner_node_records first cs bytes below n =
    subst (λ (bs : List ℕ). records_in (Some bs) below ≡ flat_map below (([], first) ∷ cs)) (sym n.spelled)
    (ap (flat_map below) (inner_spelled first cs (zeros_after Inner first cs) n.first_size n.sizes (few_cells Inner first cs n.fits)))

-- ---- trees

-- what is walked below each of these cells
abbrev walked : ℕ → Array → List Entry → List Entry
walked levels A cs = flat_map (λ c. records_below levels A (child_page c)) cs

leaf_page : (A : Array) (levels p : ℕ) (es : List Entry) → 0 < levels → Holds A p Leaf [] es → records_below levels A p ≡ es
leaf_page A zero p es some h = absurd (omega (arith, some))
leaf_page A (suc n) p es some h = rw h.1 (leaf_records es h.0 (λ c. records_below n A (child_page c)) h.2)

inner_page : (A : Array) (n p : ℕ) (cs : List Entry) → HoldsChildren A p cs → records_below (suc n) A p ≡ walked n A cs
inner_page A n p [] h = absurd h
inner_page A n p (c ∷ cs) h = rw h.1 (inner_node_records c.1 cs h.0 (λ d. records_below n A (child_page d)) h.2)

page_read : (p : ℕ) → p < 65536 → big_number 4 (four_bytes p) ≡ p
page_read p small = big_number-reads_back 4 p [] (omega (arith, small))

held_page : (A : Array) → Numbered A → (p : ℕ) (bytes : List ℕ) → A p ≡ Some bytes → p < 65536
held_page A numbered p bytes is = numbered p (rw is refl)

inner_held : (A : Array) → Numbered A → (p : ℕ) (cs : List Entry) → HoldsChildren A p cs → p < 65536
inner_held A numbered p [] h = absurd h
inner_held A numbered p (c ∷ cs) h = held_page A numbered p h.0 h.1

pub met : (A : Array) → Numbered A → (d : ℕ) (high : Option (List ℕ)) (f : Forest) (levels : ℕ) → IsSound A d high f → d < levels → walked levels A (cells f) ≡ entries f
met A numbered d high no_trees levels s deep = refl
met A numbered d high (leaf k p es f) levels s deep =
    let here : records_below levels A (big_number 4 (four_bytes p)) ≡ es =
    ap (records_below levels A) (page_read p (held_page A numbered p s.0.0 s.0.1)) ∙ leaf_page A levels p es (omega (arith, deep)) s.0 in
    let behind = met A numbered d high f levels s.5 deep in
    rw (here, behind) refl
met A numbered d high (inner k p c f) zero s deep = absurd (omega (arith, deep))
met A numbered d high (inner k p c f) (suc n) s deep =
    let below = met A numbered s.2.0 _ c n s.2.2 (omega (arith, deep, s.2.1)) in
    let here : records_below (suc n) A (big_number 4 (four_bytes p)) ≡ entries c =
    ap (records_below (suc n) A) (page_read p (inner_held A numbered p (cells c) s.0)) ∙ inner_page A n p (cells c) s.0 ∙ below in
    let behind = met A numbered d high f (suc n) s.6 deep in
    rw (here, behind) refl

-- an array that stands for a map has its records
pub records_met : (A : Array) (map : List Entry) → Numbered A → Represents map A → records_of A ≡ map
unfolding records_of
records_met A map numbered s =
    let t = s.is_tree in
    let all = met A numbered t.depth None s.tree 17 t.sound (shallow A t.depth None s.tree _ t.sound t.full t.root numbered) in
    let root : walked 17 A (cells s.tree) ≡ records_below 17 A 0 ++ [] = ap (walked 17 A) t.root in
    sym (append-nil (records_below 17 A 0)) ∙ sym root ∙ all ∙ s.entries_are
