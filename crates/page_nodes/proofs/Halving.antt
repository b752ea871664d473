-- Where a list of cells is cut.
use Rattle.std.proofs.Common.{◌≡◌, ◌⊎◌, ⊎_elim, inl, inr, ℕ, ◌+◌, ◌-◌, ◌*◌, ◌<◌, ◌≤◌, List, [], ◌∷◌, ◌++◌, length, refl, sym, ap, ◌∙◌, append_assoc, arith, length-append, length-drop}
use Rattle.std.proofs.lemmas.List.{append-nil}
use Rattle.page_nodes.specs.declared.cell.NodeKind.{NodeKind}
use Rattle.page_nodes.specs.declared.cell.NodeKind.TheVariants.{Leaf, Inner}
use Rattle.page_nodes.specs.Map.{Entry}
use Rattle.page_nodes.specs.Node.{HasSizes, cell_bytes, cells_bytes, IsCellAt, start}
use Rattle.page_nodes.specs.Search.{AreCellsAt}
use Rattle.page_nodes.specs.Scratch.{max_cell_length, min_cells, IsCut}
use Rattle.page_nodes.proofs.Scan.{head_of, cell_ends, short_cell, cells_append}

pub record Cuts (kind : NodeKind) (bytes : List ℕ) (cs : List Entry) (at i : ℕ) : Type 0 where
  pub front : List Entry
  pub rest : List Entry
  pub whole : cs ≡ front ++ rest
  pub front_long : at ≡ length (cells_bytes kind front)
  pub number : i ≡ length front
  pub here : AreCellsAt kind bytes at rest []
  pub half : 2 * at ≤ length bytes + 2 * max_cell_length kind

rest_long : (kind : NodeKind) (bytes : List ℕ) (cs : List Entry) (at i : ℕ) (c : Cuts kind bytes cs at i) → at ≤ length bytes → at + length (cells_bytes kind c.rest) ≡ length bytes
rest_long kind bytes cs at i c inside =
    let long = ap (λ (xs : List ℕ). length xs) c.here.spelled in
    omega (arith, long, length-drop at bytes, length-append (cells_bytes kind c.rest) [], inside)

pub cuts_begin : (kind : NodeKind) (bytes : List ℕ) (cs : List Entry) → HasSizes kind cs → bytes ≡ cells_bytes kind cs → Cuts kind bytes cs 0 0
cuts_begin kind bytes cs sizes is = record {
  front = [];
  rest = cs;
  whole = refl;
  front_long = refl;
  number = refl;
  here = record { sizes = sizes; spelled = is ∙ sym (append-nil (cells_bytes kind cs)) };
  half = omega arith;
}

some_left : (kind : NodeKind) (rest : List Entry) → 0 < length (cells_bytes kind rest) → 0 < length rest
some_left kind [] some = some
some_left kind (x ∷ xs) some = omega arith

pub cuts_some : (kind : NodeKind) (bytes : List ℕ) (cs : List Entry) (at i : ℕ) (c : Cuts kind bytes cs at i) → start kind + at ≤ 4096 → 4096 < start kind + length bytes → 0 < length c.rest
cuts_some kind bytes cs at i c fits over = some_left kind c.rest (omega (arith, rest_long kind bytes cs at i c (omega (arith, fits, over)), fits, over))

one_short : (kind : NodeKind) (rest : List Entry) → HasSizes kind rest → length rest ≤ 1 → length (cells_bytes kind rest) ≤ max_cell_length kind
one_short kind [] sizes few = omega arith
one_short kind (x ∷ []) sizes few = omega (arith, short_cell kind x sizes.0 sizes.1, length-append (cell_bytes kind x) [])
one_short kind (x ∷ (y ∷ ys)) sizes few = absurd (omega (arith, few))

two_left : (kind : NodeKind) (rest : List Entry) → HasSizes kind rest → max_cell_length kind < length (cells_bytes kind rest) → 2 ≤ length rest
two_left kind rest sizes long = least (length rest) (λ few. omega (arith, one_short kind rest sizes few, long))
  where
    least : (n : ℕ) → (n ≤ 1 → ⊥) → 2 ≤ n
    least n not = omega (arith, not)

some_front : (kind : NodeKind) (front : List Entry) → 0 < length (cells_bytes kind front) → 0 < length front
some_front = some_left

enough : (kind : NodeKind) (rest : List Entry) → HasSizes kind rest → 0 < length (cells_bytes kind rest) → (max_cell_length kind < length (cells_bytes kind rest)) ⊎ (kind ≡ Leaf) → min_cells kind ≤ length rest
enough Leaf rest sizes some long = some_left Leaf rest some
enough Inner rest sizes some long = ⊎_elim (λ more. two_left Inner rest sizes more) (λ e. let bad : Inner ≡ Leaf = e in cc) long

-- the cut at half
pub cut_half : (kind : NodeKind) (bytes : List ℕ) (cs : List Entry) (at i : ℕ) → Cuts kind bytes cs at i → start kind + at ≤ 4096 → 4096 < start kind + length bytes → start kind + length bytes ≤ 4096 + max_cell_length kind
    → length bytes - at ≤ at → IsCut kind cs at i
cut_half kind bytes cs at i c fits over short half =
    let long = rest_long kind bytes cs at i c (omega (arith, fits, over)) in
    record {
      front = c.front;
      back = c.rest;
      whole = c.whole;
      at_is = c.front_long;
      index_is = c.number;
      some = some_front kind c.front (omega (arith, c.front_long, half, fits, over));
      more = enough kind c.rest c.here.sizes (omega (arith, long, fits, over)) (large kind fits over c.half (length (cells_bytes kind c.rest)) long);
      front_fits = omega (arith, c.front_long, fits);
      back_fits = omega (arith, long, half, fits);
    }
  where
    large : (kind : NodeKind) → start kind + at ≤ 4096 → 4096 < start kind + length bytes → 2 * at ≤ length bytes + 2 * max_cell_length kind → (n : ℕ) → at + n ≡ length bytes → (max_cell_length kind < n) ⊎ (kind ≡ Leaf)
    large Leaf fits over half n long = inr refl
    large Inner fits over half n long = inl (omega (arith, fits, over, half, long))

-- the cut where the next cell does not fit
pub cut_full : (kind : NodeKind) (bytes : List ℕ) (cs : List Entry) (at i : ℕ) (key payload : List ℕ) (end : ℕ) → Cuts kind bytes cs at i → start kind + at ≤ 4096 → 4096 < start kind + length bytes
    → start kind + length bytes ≤ 4096 + max_cell_length kind → at < length bytes - at → IsCellAt kind bytes at key payload end → 4096 < start kind + end → IsCut kind cs at i
cut_full kind bytes cs at i key payload end c fits over short half view full =
    let long = rest_long kind bytes cs at i c (omega (arith, fits, over)) in
    let size = short_cell kind (key, payload) view.key_size view.payload_size in
    let ends = cell_ends kind bytes at key payload end view in
    let far : 4096 < start kind + (at + max_cell_length kind) = omega (arith, size, ends, full) in
    let room = far_enough kind far in
    record {
      front = c.front;
      back = c.rest;
      whole = c.whole;
      at_is = c.front_long;
      index_is = c.number;
      some = some_front kind c.front (omega (arith, c.front_long, room));
      more = enough kind c.rest c.here.sizes (omega (arith, long, half)) (inl (omega (arith, long, half, room)));
      front_fits = omega (arith, c.front_long, fits);
      back_fits = omega (arith, long, short, room);
    }
  where
    far_enough : (kind : NodeKind) → 4096 < start kind + (at + max_cell_length kind) → (max_cell_length kind ≤ at) × (0 < at)
    far_enough Leaf far = (omega (arith, far), omega (arith, far))
    far_enough Inner far = (omega (arith, far), omega (arith, far))

same_cell : (kind : NodeKind) (key payload : List ℕ) (c : Entry) → key ≡ c.0 → payload ≡ c.1 → cell_bytes kind (key, payload) ≡ cell_bytes kind c
same_cell kind key payload c k b = rw (k, b) refl

pub cuts_on : (kind : NodeKind) (bytes : List ℕ) (cs : List Entry) (at i : ℕ) (key payload : List ℕ) (end : ℕ) → Cuts kind bytes cs at i → 0 < length bytes - at → at < length bytes - at → 0 < at + 1 → (some : 4096 < start kind + length bytes) → start kind + at ≤ 4096
    → IsCellAt kind bytes at key payload end → Cuts kind bytes cs end (i + 1)
cuts_on kind bytes cs at i key payload end c left half one over fits view =
    let h = head_of kind bytes at c.rest [] key payload end c.here (cuts_some kind bytes cs at i c fits over) view in
    let size = short_cell kind (key, payload) view.key_size view.payload_size in
    let ends = cell_ends kind bytes at key payload end view in
    let same : cell_bytes kind (key, payload) ≡ cell_bytes kind h.c = same_cell kind key payload h.c h.key_is h.payload_is in
    record {
      front = c.front ++ (h.c ∷ []);
      rest = h.cs;
      whole = c.whole ∙ (ap (λ (xs : List Entry). c.front ++ xs) h.cells_are ∙ sym (append_assoc c.front (h.c ∷ []) h.cs));
      front_long = omega (arith, ends, c.front_long, ap (λ (xs : List ℕ). length xs) same, ap (λ (xs : List ℕ). length xs) (cells_append kind c.front (h.c ∷ [])), length-append (cells_bytes kind c.front) (cells_bytes kind (h.c ∷ [])), length-append (cell_bytes kind h.c) []);
      number = omega (arith, c.number, length-append c.front (h.c ∷ []));
      here = h.rest;
      half = omega (arith, size, ends, half);
    }

pub cut_long : (kind : NodeKind) (cs : List Entry) (at index : ℕ) (bytes : List ℕ) (c : IsCut kind cs at index) → bytes ≡ cells_bytes kind cs → length bytes ≡ at + length (cells_bytes kind c.back)
cut_long kind cs at index bytes c is =
    let all : bytes ≡ cells_bytes kind c.front ++ cells_bytes kind c.back = is ∙ (ap (λ (xs : List Entry). cells_bytes kind xs) c.whole ∙ cells_append kind c.front c.back) in
    omega (arith, ap (λ (xs : List ℕ). length xs) all, length-append (cells_bytes kind c.front) (cells_bytes kind c.back), c.at_is)
