-- Where a list of cells is cut at its end.
use Rattle.std.proofs.Common.{◌≡◌, ℕ, ◌+◌, ◌-◌, ◌<◌, ◌≤◌, List, [], ◌∷◌, ◌++◌, length, take, drop, sym, ap, ◌∙◌, subst, arith, length-append, length-drop}
use Rattle.std.proofs.lemmas.List.{length-take-le, take-append-drop}
use Rattle.page_nodes.specs.declared.cell.NodeKind.{NodeKind}
use Rattle.page_nodes.specs.declared.cell.NodeKind.TheVariants.{Leaf, Inner}
use Rattle.page_nodes.specs.Map.{Entry}
use Rattle.page_nodes.specs.Node.{HasSizes, cell_bytes, cells_bytes, start}
use Rattle.page_nodes.specs.Search.{AreCellsAt}
use Rattle.page_nodes.specs.Scratch.{min_cells, IsCut, EndFits}
use Rattle.page_nodes.proofs.Scan.{short_cell, cells_append}

pub sizes_front : (kind : NodeKind) (xs ys : List Entry) → HasSizes kind (xs ++ ys) → HasSizes kind xs
sizes_front kind [] ys sizes = tt
sizes_front kind (x ∷ xs) ys sizes = (sizes.0, sizes.1, sizes_front kind xs ys sizes.2)

pub sizes_back : (kind : NodeKind) (xs ys : List Entry) → HasSizes kind (xs ++ ys) → HasSizes kind ys
sizes_back kind [] ys sizes = sizes
sizes_back kind (x ∷ xs) ys sizes = sizes_back kind xs ys sizes.2

-- cells in two parts, as bytes spell them
pub record Halves (kind : NodeKind) (bytes : List ℕ) (front back : List Entry) : Type 0 where
  pub back_sizes : HasSizes kind back
  pub here : AreCellsAt kind bytes 0 front (cells_bytes kind back)
  pub long : length bytes ≡ length (cells_bytes kind front) + length (cells_bytes kind back)

pub halves : (kind : NodeKind) (bytes : List ℕ) (cs front back : List Entry) → HasSizes kind cs → bytes ≡ cells_bytes kind cs → cs ≡ front ++ back → Halves kind bytes front back
halves kind bytes cs front back sizes spelled whole =
    let both : HasSizes kind (front ++ back) = subst (λ (xs : List Entry). HasSizes kind xs) whole sizes in
    let all : bytes ≡ cells_bytes kind front ++ cells_bytes kind back = spelled ∙ (ap (λ (xs : List Entry). cells_bytes kind xs) whole ∙ cells_append kind front back) in
    record {
      back_sizes = sizes_back kind front back both;
      here = record { sizes = sizes_front kind front back both; spelled = all };
      long = ap (λ (xs : List ℕ). length xs) all ∙ length-append (cells_bytes kind front) (cells_bytes kind back);
    }

-- the byte after the first part
pub seam_at : (kind : NodeKind) (bytes : List ℕ) (front back : List Entry) (at : ℕ) → Halves kind bytes front back → drop at bytes ≡ cells_bytes kind back → at ≤ length bytes → at ≡ length (cells_bytes kind front)
seam_at kind bytes front back at h after inside = omega (arith, h.long, ap (λ (xs : List ℕ). length xs) after, length-drop at bytes, inside)

-- the cell after a cut at the end, or the two, fit in a page
pub last_short : (kind : NodeKind) (back : List Entry) → HasSizes kind back → length back ≡ min_cells kind → start kind + length (cells_bytes kind back) ≤ 4096
last_short Leaf [] sizes few = omega arith
last_short Leaf (x ∷ []) sizes few = omega (arith, short_cell Leaf x sizes.0 sizes.1, length-append (cell_bytes Leaf x) [])
last_short Leaf (x ∷ (y ∷ ys)) sizes few = absurd (omega (arith, few))
last_short Inner [] sizes few = omega arith
last_short Inner (x ∷ []) sizes few = absurd (omega (arith, few))
last_short Inner (x ∷ (y ∷ [])) sizes few =
    omega (arith, short_cell Inner x sizes.0 sizes.1, short_cell Inner y sizes.2.0 sizes.2.1, length-append (cell_bytes Inner x) (cell_bytes Inner y ++ []), length-append (cell_bytes Inner y) [])
last_short Inner (x ∷ (y ∷ (z ∷ zs))) sizes few = absurd (omega (arith, few))

-- the cut before the cell of an index
pub end_cut : (kind : NodeKind) (bytes : List ℕ) (cs : List Entry) (count index at : ℕ) → HasSizes kind cs → bytes ≡ cells_bytes kind cs → count ≡ length cs → index + min_cells kind ≡ count → 0 < index
    → ((cells : List Entry) (after : List ℕ) → AreCellsAt kind bytes 0 cells after → index ≡ length cells → drop at bytes ≡ after) → at ≤ length bytes → start kind + at ≤ 4096 → IsCut kind cs at index
end_cut kind bytes cs count index at sizes spelled number last some ends inside fits =
    let front : List Entry = take index cs in
    let back : List Entry = drop index cs in
    let whole : cs ≡ front ++ back = sym (take-append-drop index cs) in
    let h : Halves kind bytes front back = halves kind bytes cs front back sizes spelled whole in
    let few : index ≤ length cs = omega (arith, number, last) in
    let front_long : length front ≡ index = length-take-le index cs few in
    let back_long : length back ≡ min_cells kind = omega (arith, length-drop index cs, number, last) in
    let at_is = seam_at kind bytes front back at h (ends front (cells_bytes kind back) h.here (sym front_long)) inside in
    record {
      front = front;
      back = back;
      whole = whole;
      at_is = at_is;
      index_is = sym front_long;
      some = omega (arith, front_long, some);
      more = omega (arith, back_long);
      front_fits = omega (arith, at_is, fits);
      back_fits = last_short kind back h.back_sizes back_long;
    }

-- cells that can be cut at their end: where the first part ends, and that both fit
pub record EndPlace (kind : NodeKind) (bytes : List ℕ) (count : ℕ) : Type 0 where
  pub front : List Entry
  pub after : List ℕ
  pub here : AreCellsAt kind bytes 0 front after
  pub number : length front + min_cells kind ≡ count
  pub some : 0 < length front
  pub fits : (at : ℕ) → drop at bytes ≡ after → at ≤ length bytes → (start kind + at ≤ 4096) × (start kind + (length bytes - at) ≤ 4096)

pub end_place : (kind : NodeKind) (bytes : List ℕ) (cs : List Entry) (count : ℕ) → HasSizes kind cs → bytes ≡ cells_bytes kind cs → count ≡ length cs → EndFits kind cs → EndPlace kind bytes count
end_place kind bytes cs count sizes spelled number e =
    let h : Halves kind bytes e.front e.back = halves kind bytes cs e.front e.back sizes spelled e.whole in
    let short = last_short kind e.back h.back_sizes e.last in
    record {
      front = e.front;
      after = cells_bytes kind e.back;
      here = h.here;
      number = omega (arith, number, e.last, ap (λ (xs : List Entry). length xs) e.whole, length-append e.front e.back);
      some = e.some;
      fits = λ at after inside.
          let at_is = seam_at kind bytes e.front e.back at h after inside in
          (omega (arith, at_is, e.front_fits), omega (arith, at_is, h.long, short));
    }
