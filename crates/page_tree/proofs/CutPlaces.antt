-- A list of cells that is cut before the cell of an index.
use Rattle.std.proofs.Common.{◌≡◌, ◌≢◌, Option, Some, None, refl, ℕ, ◌+◌, ◌-◌, ◌<◌, ◌≤◌, List, ◌++◌, length, take, drop, sym, ap, arith, length-append, length-drop}
use Rattle.std.specs.Prelude.{IfSome, MatchOption}
use Rattle.std.proofs.lemmas.List.{length-take-le, take-append-drop}
use Rattle.page_nodes.specs.declared.cell.NodeKind.{NodeKind}
use Rattle.page_nodes.specs.Map.{Entry}
use Rattle.page_nodes.specs.Node.{HasSizes, cells_bytes, start}
use Rattle.page_nodes.specs.Search.{AreCellsAt}
use Rattle.page_nodes.specs.Scratch.{min_cells, IsCut}
use Rattle.page_nodes.proofs.EndCut.{Halves, halves, seam_at}

-- a cut where the first part ends, if both parts fit
pub cut_there : (kind : NodeKind) (bytes : List ℕ) (cs : List Entry) (count index at : ℕ) → HasSizes kind cs → bytes ≡ cells_bytes kind cs → count ≡ length cs → 0 < index → index + min_cells kind ≤ count
    → ((cells : List Entry) (after : List ℕ) → AreCellsAt kind bytes 0 cells after → index ≡ length cells → drop at bytes ≡ after) → at ≤ length bytes
    → start kind + at ≤ 4096 → start kind + (length bytes - at) ≤ 4096 → IsCut kind cs at index
cut_there kind bytes cs count index at sizes spelled number some more ends inside front_fits back_fits =
    let front : List Entry = take index cs in
    let back : List Entry = drop index cs in
    let whole : cs ≡ front ++ back = sym (take-append-drop index cs) in
    let h : Halves kind bytes front back = halves kind bytes cs front back sizes spelled whole in
    let few : index ≤ length cs = omega (arith, number, more) in
    let front_long : length front ≡ index = length-take-le index cs few in
    let at_is = seam_at kind bytes front back at h (ends front (cells_bytes kind back) h.here (sym front_long)) inside in
    record {
      front = front;
      back = back;
      whole = whole;
      at_is = at_is;
      index_is = sym front_long;
      some = omega (arith, front_long, some);
      more = omega (arith, length-drop index cs, number, more);
      front_fits = omega (arith, at_is, front_fits);
      back_fits = omega (arith, at_is, h.long, back_fits);
    }

-- cells that may be cut before an index: where the first part ends, and that both fit
pub record CutHere (kind : NodeKind) (bytes : List ℕ) (index count : ℕ) : Type 0 where
  pub front : List Entry
  pub after : List ℕ
  pub here : AreCellsAt kind bytes 0 front after
  pub index_is : index ≡ length front
  pub some : 0 < index
  pub more : index + min_cells kind ≤ count
  pub fits : (at : ℕ) → drop at bytes ≡ after → at ≤ length bytes → (start kind + at ≤ 4096) × (start kind + (length bytes - at) ≤ 4096)

pub cut_here : (kind : NodeKind) (bytes : List ℕ) (cs : List Entry) (count index place : ℕ) → HasSizes kind cs → bytes ≡ cells_bytes kind cs → count ≡ length cs → IsCut kind cs place index → CutHere kind bytes index count
cut_here kind bytes cs count index place sizes spelled number cut =
    let h : Halves kind bytes cut.front cut.back = halves kind bytes cs cut.front cut.back sizes spelled cut.whole in
    record {
      front = cut.front;
      after = cells_bytes kind cut.back;
      here = h.here;
      index_is = cut.index_is;
      some = omega (arith, cut.some, cut.index_is);
      more = omega (arith, number, cut.more, cut.index_is, ap (λ (xs : List Entry). length xs) cut.whole, length-append cut.front cut.back);
      fits = λ at after inside.
          let at_is = seam_at kind bytes cut.front cut.back at h after inside in
          (omega (arith, at_is, cut.front_fits), omega (arith, at_is, h.long, cut.back_fits));
    }

-- what is said of a cut that is found
pub found_with : {X : Type 0} (r : Option X) (P Q : X → Type 0) → r ≢ None → ((x : X) → P x → Q x) → IfSome r P → MatchOption r ⊥ Q
found_with None P Q some f h = some refl
found_with (Some x) P Q some f h = f x h
