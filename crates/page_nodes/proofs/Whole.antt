-- A whole page is read, and is read as one node only.
use Rattle.std.proofs.Common.{◌≡◌, ℕ, zero, suc, ◌+◌, ◌-◌, ◌<◌, ◌≤◌, true, subst, List, [], ◌∷◌, ◌++◌, Option, Some, None, length, drop, take, replicate, get_or, refl, sym, ap, ◌∙◌, append_assoc, arith, length-append, length-drop}
use Rattle.std.proofs.lemmas.List.{length-take-le}
use Rattle.std.proofs.Math.Seq.{take-length}
use Rattle.page_nodes.specs.declared.cell.NodeKind.{NodeKind}
use Rattle.page_nodes.specs.declared.cell.NodeKind.TheVariants.{Leaf, Inner}
use Rattle.page_nodes.specs.Map.{Entry, is_below, AllAbove, IsRising}
use Rattle.page_nodes.specs.Node.{two_bytes, HasSizes, IsFirst, cell_bytes, cells_bytes, front_bytes, zeros_after, IsCellAt, IsNode, start, tag}
use Rattle.page_nodes.specs.Search.{AreCellsAt, RiseTo}
use Rattle.page_nodes.proofs.Cells.{two_same, parts}
use Rattle.page_nodes.proofs.Scan.{begins, one_cell, head_of}
use Rattle.page_nodes.proofs.Order.{above_all}

-- a node's cells are spelled by one list alone
cells_same : (kind : NodeKind) (cs ds : List Entry) (y z : List ℕ) → HasSizes kind cs → HasSizes kind ds → length cs ≡ length ds → cells_bytes kind cs ++ y ≡ cells_bytes kind ds ++ z → cs ≡ ds
cells_same kind [] [] y z a b long e = refl
cells_same kind [] (d ∷ ds) y z a b long e = absurd (omega (arith, long))
cells_same kind (c ∷ cs) [] y z a b long e = absurd (omega (arith, long))
cells_same kind (c ∷ cs) (d ∷ ds) y z a b long e =
    let apart = sym (append_assoc (cell_bytes kind c) (cells_bytes kind cs) y) ∙ (e ∙ append_assoc (cell_bytes kind d) (cells_bytes kind ds) z) in
    let one = one_cell kind c d (cells_bytes kind cs ++ y) (cells_bytes kind ds ++ z) a.0 a.1 b.0 b.1 apart in
    let rest = cells_same kind cs ds y z a.2 b.2 (omega (arith, long)) one.after in
    same_head c d cs ds one.key one.payload rest
  where
    same_head : (c d : Entry) (cs ds : List Entry) → c.0 ≡ d.0 → c.1 ≡ d.1 → cs ≡ ds → c ∷ cs ≡ d ∷ ds
    same_head c d cs ds k b e = let pair : (c.0, c.1) ≡ (d.0, d.1) = rw (k, b) refl in let same : c ≡ d = pair in rw (same, e) refl

tags : (kind other : NodeKind) → tag kind ≡ tag other → kind ≡ other
tags Leaf Leaf e = refl
tags Leaf Inner e = absurd (omega (arith, e))
tags Inner Leaf e = absurd (omega (arith, e))
tags Inner Inner e = refl

pub tag_at : (kind : NodeKind) (bytes first : List ℕ) (cells : List Entry) → IsNode kind first cells bytes → get_or bytes 0 0 ≡ tag kind
tag_at kind bytes first cells n = ap (λ (bs : List ℕ). get_or bs 0 0) n.spelled

pub kind_same : (kind other : NodeKind) (bytes first others : List ℕ) (cells ds : List Entry) → IsNode kind first cells bytes → IsNode other others ds bytes → kind ≡ other
kind_same kind other bytes first others cells ds n m = tags kind other (sym (tag_at kind bytes first cells n) ∙ tag_at other bytes others ds m)

pub first_same : (kind : NodeKind) (bytes first others : List ℕ) (cells ds : List Entry) → IsNode kind first cells bytes → IsNode kind others ds bytes → first ≡ others
first_same kind bytes first others cells ds n m = sym (begins kind bytes first cells n).first_is ∙ (begins kind bytes others ds m).first_is

pub node_same : (kind : NodeKind) (bytes first others : List ℕ) (cells ds : List Entry) → IsNode kind first cells bytes → IsNode kind others ds bytes → cells ≡ ds
node_same kind bytes first others cells ds n m =
    let a = begins kind bytes first cells n in
    let b = begins kind bytes others ds m in
    cells_same kind cells ds _ _ a.ahead.sizes b.ahead.sizes (two_same (length cells) (length ds) _ _ a.small b.small (sym a.count ∙ b.count)) (sym a.ahead.spelled ∙ b.ahead.spelled)

-- what is read of a node whose keys rise, up to a cell
pub record HasRead (kind : NodeKind) (bytes : List ℕ) (count end : ℕ) (after : List ℕ) : Type 0 where
  pub cells : List Entry
  pub number : count ≡ length cells
  pub are : AreCellsAt kind bytes (start kind) cells after
  pub rising : IsRising cells

-- once the cells after a cell are read, all are
abbrev pub ReadsOn : NodeKind → List ℕ → List ℕ → List ℕ → ℕ → ℕ → Type 0
ReadsOn kind bytes key payload at passed =
    (rest : List Entry) (after : List ℕ) → AreCellsAt kind bytes at rest after → IsRising ((key, payload) ∷ rest) → (cells : List Entry) × AreCellsAt kind bytes (start kind) cells after × IsRising cells × (passed + length rest ≡ length cells)

-- a cell ahead of others
joined : (kind : NodeKind) (bytes : List ℕ) (at : ℕ) (key payload : List ℕ) (end : ℕ) (rest : List Entry) (after : List ℕ) → IsCellAt kind bytes at key payload end → AreCellsAt kind bytes end rest after → AreCellsAt kind bytes at ((key, payload) ∷ rest) after
joined kind bytes at key payload end rest after view are = record {
  sizes = (view.key_size, view.payload_size, are.sizes);
  spelled = view.spelled ∙ (ap (λ (xs : List ℕ). cell_bytes kind (key, payload) ++ xs) are.spelled ∙ sym (append_assoc (cell_bytes kind (key, payload)) (cells_bytes kind rest) after));
}

pub reads_begin : (kind : NodeKind) (bytes key payload : List ℕ) (end : ℕ) → IsCellAt kind bytes (start kind) key payload end → ReadsOn kind bytes key payload end 1
reads_begin kind bytes key payload end view rest after are rising = ((key, payload) ∷ rest, joined kind bytes (start kind) key payload end rest after view are, rising, omega arith)

pub reads_on : (kind : NodeKind) (bytes key payload next_key next_payload : List ℕ) (at end i : ℕ) → ReadsOn kind bytes key payload at i → IsCellAt kind bytes at next_key next_payload end → true ≡ is_below key next_key
    → ReadsOn kind bytes next_key next_payload end (i + 1)
reads_on kind bytes key payload next_key next_payload at end i reads view below rest after are rising =
    let all = reads ((next_key, next_payload) ∷ rest) after (joined kind bytes at next_key next_payload end rest after view are) ((sym below, above_all key next_key rest (sym below) rising.0), rising) in
    (all.0, all.1, all.2, omega (arith, all.3))

-- a rising node: what stands after a cell
pub record Rises (kind : NodeKind) (bytes key payload : List ℕ) (at i count : ℕ) (after : List ℕ) : Type 0 where
  pub rest : List Entry
  pub here : AreCellsAt kind bytes at rest after
  pub total : i + length rest ≡ count
  pub rising : IsRising ((key, payload) ∷ rest)

pub rises_begin : (kind : NodeKind) (bytes first : List ℕ) (cells : List Entry) (key payload : List ℕ) (end count : ℕ) → IsNode kind first cells bytes → IsRising cells → count ≡ length cells → (count ≡ 0 → ⊥)
    → IsCellAt kind bytes (start kind) key payload end → Rises kind bytes key payload end 1 count (zeros_after kind first cells)
rises_begin kind bytes first cells key payload end count node rising is some view =
    let h = head_of kind bytes (start kind) cells (zeros_after kind first cells) key payload end ((begins kind bytes first cells node).ahead) (omega (arith, is, some)) view in
    record {
      rest = h.cs;
      here = h.rest;
      total = omega (arith, is, ap (λ (xs : List Entry). length xs) h.cells_are);
      rising = at_head h.c h.cs h.key_is (subst (λ (xs : List Entry). IsRising xs) h.cells_are rising);
    }
  where
    at_head : (c : Entry) (cs : List Entry) → key ≡ c.0 → IsRising (c ∷ cs) → IsRising ((key, payload) ∷ cs)
    at_head c cs e r = (subst (λ (k : List ℕ). AllAbove k cs) (sym e) r.0, r.1)

pub record RisesOn (kind : NodeKind) (bytes key : List ℕ) (at i count : ℕ) (after next_key next_payload : List ℕ) (end : ℕ) : Type 0 where
  pub below : is_below key next_key ≡ true
  pub on : Rises kind bytes next_key next_payload end (i + 1) count after

pub rises_on : (kind : NodeKind) (bytes key payload : List ℕ) (at i count : ℕ) (after next_key next_payload : List ℕ) (end : ℕ) → Rises kind bytes key payload at i count after → i < count → IsCellAt kind bytes at next_key next_payload end
    → RisesOn kind bytes key at i count after next_key next_payload end
rises_on kind bytes key payload at i count after next_key next_payload end r more view =
    let h = head_of kind bytes at r.rest after next_key next_payload end r.here (omega (arith, r.total, more)) view in
    let rising : IsRising ((key, payload) ∷ (h.c ∷ h.cs)) = subst (λ (xs : List Entry). IsRising ((key, payload) ∷ xs)) h.cells_are r.rising in
    record {
      below = subst (λ (k : List ℕ). is_below key k ≡ true) (sym h.key_is) rising.0.0;
      on = record {
        rest = h.cs;
        here = h.rest;
        total = omega (arith, r.total, ap (λ (xs : List Entry). length xs) h.cells_are);
        rising = (subst (λ (k : List ℕ). AllAbove k h.cs) (sym h.key_is) rising.1.0, rising.1.1);
      };
    }

-- a list of zeros
pub zeros_are : (xs : List ℕ) → ((k : ℕ) → k < length xs → get_or xs k 0 ≡ 0) → xs ≡ replicate (length xs) 0
zeros_are [] all = refl
zeros_are (x ∷ xs) all =
    let here : x ≡ 0 = all 0 (omega arith) in
    let rest = zeros_are xs (λ k less. all (suc k) (omega (arith, less))) in
    rw here (ap (λ (zs : List ℕ). 0 ∷ zs) rest)

two_ahead : (bytes : List ℕ) → 2 ≤ length bytes → bytes ≡ get_or bytes 0 0 ∷ get_or bytes 1 0 ∷ drop 2 bytes
two_ahead [] long = absurd (omega (arith, long))
two_ahead (x ∷ []) long = absurd (omega (arith, long))
two_ahead (x ∷ (y ∷ zs)) long = refl

-- a page that is read is a node
pub node_read : (kind : NodeKind) (bytes : List ℕ) (end : ℕ) (r : RiseTo kind bytes end) → length bytes ≡ 4096 → get_or bytes 0 0 ≡ tag kind → get_or bytes 1 0 ≡ 0 → end ≤ 4096
    → drop end bytes ≡ replicate (length (drop end bytes)) 0 → IsNode kind (take (start kind - 4) (drop 4 bytes)) r.cells bytes
node_read kind bytes end r long is_tag is_zero inside zeros =
    let first = take (start kind - 4) (drop 4 bytes) in
    let tail : drop 4 bytes ≡ first ++ drop (start kind) bytes = parts 4 (start kind - 4) bytes ∙ ap (λ n. first ++ drop n bytes) (at_start kind) in
    let front = (tag kind ∷ 0 ∷ two_bytes (length r.cells)) ++ (first ++ cells_bytes kind r.cells) in
    let spelled : bytes ≡ tag kind ∷ 0 ∷ (two_bytes (length r.cells) ++ (first ++ (cells_bytes kind r.cells ++ drop end bytes))) =
    two_ahead bytes (omega (arith, long)) ∙ (rw (is_tag, is_zero) (ap (λ (xs : List ℕ). tag kind ∷ 0 ∷ xs)
    (r.count ∙ ap (λ (xs : List ℕ). two_bytes (length r.cells) ++ xs) (tail ∙ ap (λ (xs : List ℕ). first ++ xs) r.are.spelled)))) in
    let whole : bytes ≡ front ++ drop end bytes = spelled ∙ ap (λ (xs : List ℕ). (tag kind ∷ 0 ∷ two_bytes (length r.cells)) ++ xs) (sym (append_assoc first (cells_bytes kind r.cells) (drop end bytes))) in
    let count : length front + length (drop end bytes) ≡ 4096 = sym (length-append front (drop end bytes)) ∙ (sym (ap (λ (xs : List ℕ). length xs) whole) ∙ long) in
    let left : length (drop end bytes) ≡ 4096 - length front = omega (arith, count) in
    record {
      first_size = first_size kind;
      sizes = r.are.sizes;
      fits = omega (arith, count);
      spelled = whole ∙ ap (λ (xs : List ℕ). front ++ xs) (zeros ∙ ap (λ n. replicate {A = ℕ} n 0) left);
    }
  where
    at_start : (kind : NodeKind) → 4 + (start kind - 4) ≡ start kind
    at_start Leaf = refl
    at_start Inner = refl

    first_size : (kind : NodeKind) → IsFirst kind (take (start kind - 4) (drop 4 bytes))
    first_size Leaf = refl
    first_size Inner = length-take-le 4 (drop 4 bytes) (omega (arith, length-drop 4 bytes, long))

-- what a whole page has
pub behind_zero : (kind : NodeKind) (bytes first : List ℕ) (cells : List Entry) → IsNode kind first cells bytes → get_or bytes 1 0 ≡ 0
behind_zero kind bytes first cells n = ap (λ (bs : List ℕ). get_or bs 1 0) n.spelled

get_zeros : (n k : ℕ) → get_or (replicate {A = ℕ} n 0) k 0 ≡ 0
get_zeros zero k = refl
get_zeros (suc n) zero = refl
get_zeros (suc n) (suc k) = get_zeros n k

pub rest_zero : (kind : NodeKind) (first : List ℕ) (cells : List Entry) (rest : List ℕ) → rest ≡ zeros_after kind first cells → (k : ℕ) → get_or rest k 0 ≡ 0
rest_zero kind first cells rest e k = rw e (get_zeros (4096 - length (front_bytes kind first cells)) k)

pub no_cells : (kind : NodeKind) (bytes : List ℕ) (at : ℕ) (cells : List Entry) (after : List ℕ) → AreCellsAt kind bytes at cells after → length cells ≡ 0 → drop at bytes ≡ after
no_cells kind bytes at [] after are none = are.spelled
no_cells kind bytes at (c ∷ cs) after are none = absurd (omega (arith, none))

pub kind_is : (a b : NodeKind) → Some a ≡ Some b → a ≡ b
kind_is a b e = cc

pub no_kind : (b : NodeKind) → let none : Option NodeKind = None in none ≡ Some b → ⊥
no_kind b e = cc

pub take_all : (n : ℕ) (xs : List ℕ) → n ≡ length xs → take n xs ≡ xs
take_all n xs e = ap (λ m. take m xs) e ∙ take-length xs
