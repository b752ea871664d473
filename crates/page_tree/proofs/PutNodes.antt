-- Cells that are in scratch, and cut.
use Rattle.std.proofs.Common.{◌≡◌, ⊎_elim, inr, ℕ, suc, ◌+◌, ◌-◌, ◌<◌, ◌≤◌, Some, List, [], ◌∷◌, ◌++◌, length, take, drop, refl, sym, ap, ◌∙◌, arith, subst, length-append, length-drop, Result, Ok, Err}
use Rattle.std.proofs.Math.Seq.{drop-append_seam, take-append_seam}
use Rattle.std.proofs.lemmas.Bool.{cases_Bool}
use Rattle.std.proofs.lemmas.List.{append-nil}
use Rattle.std.specs.Prelude.{IfErr, IfOk, IfSome, MatchOption, Option, None}
use Rattle.pages.specs.declared.array.PageFault.{PageFault}
use Rattle.pages.specs.declared.array.PageFault.TheVariants.{Malformed}
use Rattle.page_nodes.specs.declared.cell.NodeKind.{NodeKind}
use Rattle.page_nodes.specs.declared.cell.NodeKind.TheVariants.{Leaf, Inner}
use Rattle.page_nodes.specs.declared.scratch.Edit.{Edit}
use Rattle.page_nodes.specs.Map.{is_below, Entry, with_entry, rest_entries}
use Rattle.page_nodes.specs.Node.{cell_bytes, cells_bytes, start, HasSizes, IsKeySize, IsPayloadSize, IsNode, IsCellAt}
use Rattle.page_nodes.specs.Search.{AreCellsAt}
use Rattle.page_nodes.specs.Scratch.{min_cells, cells_after, IsCut, EndFits}
use Rattle.page_nodes.proofs.Whole.{take_all}
use Rattle.page_nodes.proofs.EndCut.{sizes_front, sizes_back}
use Rattle.page_nodes.proofs.Scan.{short_cell, cells_append, head_of, IsHead}
use Rattle.page_tree.specs.Calls.{Gives}
use Rattle.pages.specs.declared.array.Pages.{Ghosts}
use Rattle.pages.specs.State.{Array, Takes}
use Rattle.page_tree.specs.Forest.{AllUnder, Holds}
use Rattle.page_tree.specs.Puts.{AreInScratch, first_of_second, cells_of_second, IsTaken, AreSplit, IsCutAtEnd}

-- the cells of an edited node
with_sizes : (kind : NodeKind) (key payload : List ℕ) (cs : List Entry) → IsKeySize key → IsPayloadSize kind payload → HasSizes kind cs → HasSizes kind (with_entry key payload cs)
with_sizes kind key payload [] k b sizes = (k, b, tt)
with_sizes kind key payload (c ∷ cs) k b sizes = ⊎_elim (λ yes. rw yes (sizes.0, sizes.1, with_sizes kind key payload cs k b sizes.2))
    (λ past. rw past (⊎_elim (λ less. rw less (k, b, sizes)) (λ same. rw same (k, b, sizes.2)) (cases_Bool (is_below key c.0)))) (cases_Bool (is_below c.0 key))

with_long : (kind : NodeKind) (key payload : List ℕ) (cs : List Entry) → length (cells_bytes kind (with_entry key payload cs)) ≤ length (cells_bytes kind cs) + length (cell_bytes kind (key, payload))
with_long kind key payload [] = omega (arith, length-append (cell_bytes kind (key, payload)) [])
with_long kind key payload (c ∷ cs) =
    let old = length-append (cell_bytes kind c) (cells_bytes kind cs) in
    ⊎_elim (λ yes. rw yes (omega (arith, old, length-append (cell_bytes kind c) (cells_bytes kind (with_entry key payload cs)), with_long kind key payload cs)))
    (λ past. rw past (⊎_elim (λ less. rw less (omega (arith, length-append (cell_bytes kind (key, payload)) (cell_bytes kind c ++ cells_bytes kind cs))))
    (λ same. rw same (omega (arith, old, length-append (cell_bytes kind (key, payload)) (cells_bytes kind cs)))) (cases_Bool (is_below key c.0)))) (cases_Bool (is_below c.0 key))

pub node_long : (kind : NodeKind) (first : List ℕ) (cs : List Entry) (bytes : List ℕ) → IsNode kind first cs bytes → start kind + length (cells_bytes kind cs) ≤ 4096
node_long Leaf first cs bytes n = omega (arith, n.fits, n.first_size, length-append first (cells_bytes Leaf cs))
node_long Inner first cs bytes n = omega (arith, n.fits, n.first_size, length-append first (cells_bytes Inner cs))

-- the edit that a call has made
pub edit_made : (made : Option Edit) (edit : Edit) (IsPromised : Edit → Type 0) → made ≡ Some edit → MatchOption made ⊥ IsPromised → IsPromised edit
edit_made made edit IsPromised is promised = subst (λ (o : Option Edit). MatchOption o ⊥ IsPromised) is promised

pub copied : (kind : NodeKind) (first : List ℕ) (cs : List Entry) (bytes key payload items : List ℕ) (count : ℕ) → IsNode kind first cs bytes → IsKeySize key → IsPayloadSize kind payload
    → count ≡ length (with_entry key payload cs) → items ≡ cells_bytes kind (with_entry key payload cs) → AreInScratch kind (with_entry key payload cs) items count
copied kind first cs bytes key payload items count n k b number spelled = record {
  sizes = with_sizes kind key payload cs k b n.sizes;
  spelled = spelled;
  count_is = number;
  short = omega (arith, node_long kind first cs bytes n, with_long kind key payload cs, short_cell kind (key, payload) k b, ap (λ (xs : List ℕ). length xs) spelled);
}

-- cells in two parts
pub record CutParts (kind : NodeKind) (cs : List Entry) (bytes : List ℕ) (at index count : ℕ) : Type 0 where
  pub front : List Entry
  pub c : Entry
  pub back : List Entry
  pub whole : cs ≡ front ++ (c ∷ back)
  pub some : 0 < length front
  pub more : min_cells kind ≤ suc (length back)
  pub front_sizes : HasSizes kind front
  pub back_sizes : HasSizes kind (c ∷ back)
  pub front_spelled : take at bytes ≡ cells_bytes kind front
  pub back_spelled : drop at bytes ≡ cells_bytes kind (c ∷ back)
  pub index_is : index ≡ length front
  pub left_is : count - index ≡ suc (length back)

one_more : (kind : NodeKind) → 1 ≤ min_cells kind
one_more Leaf = omega arith
one_more Inner = omega arith

head_and : (xs : List Entry) → 1 ≤ length xs → (c : Entry) × (cs : List Entry) × (xs ≡ c ∷ cs)
head_and [] some = absurd (omega (arith, some))
head_and (x ∷ xs) some = (x, xs, refl)

pub cut_parts : (kind : NodeKind) (cs : List Entry) (bytes : List ℕ) (at index count : ℕ) → AreInScratch kind cs bytes count → IsCut kind cs at index → CutParts kind cs bytes at index count
cut_parts kind cs bytes at index count d cut =
    let h = head_and cut.back (omega (arith, cut.more, one_more kind)) in
    let whole : cs ≡ cut.front ++ (h.0 ∷ h.1) = cut.whole ∙ ap (λ (xs : List Entry). cut.front ++ xs) h.2 in
    let sizes : HasSizes kind (cut.front ++ (h.0 ∷ h.1)) = subst (λ (xs : List Entry). HasSizes kind xs) whole d.sizes in
    let spelled : bytes ≡ cells_bytes kind cut.front ++ cells_bytes kind (h.0 ∷ h.1) = d.spelled ∙ (ap (λ (xs : List Entry). cells_bytes kind xs) whole ∙ cells_append kind cut.front (h.0 ∷ h.1)) in
    let number = ap (λ (xs : List Entry). length xs) h.2 in
    record {
      front = cut.front;
      c = h.0;
      back = h.1;
      whole = whole;
      some = cut.some;
      more = omega (arith, cut.more, number);
      front_sizes = sizes_front kind cut.front (h.0 ∷ h.1) sizes;
      back_sizes = sizes_back kind cut.front (h.0 ∷ h.1) sizes;
      front_spelled = ap (λ (xs : List ℕ). take at xs) spelled ∙ (ap (λ (n : ℕ). take n (cells_bytes kind cut.front ++ cells_bytes kind (h.0 ∷ h.1))) cut.at_is ∙ take-append_seam (cells_bytes kind cut.front) (cells_bytes kind (h.0 ∷ h.1)));
      back_spelled = ap (λ (xs : List ℕ). drop at xs) spelled ∙ (ap (λ (n : ℕ). drop n (cells_bytes kind cut.front ++ cells_bytes kind (h.0 ∷ h.1))) cut.at_is ∙ drop-append_seam (cells_bytes kind cut.front) (cells_bytes kind (h.0 ∷ h.1)));
      index_is = cut.index_is;
      left_is = omega (arith, d.count_is, cut.index_is, ap (λ (xs : List Entry). length xs) whole, length-append cut.front (h.0 ∷ h.1));
    }

-- a slice up to the end
pub suffix_is : (at : ℕ) (xs : List ℕ) → take (length xs - at) (drop at xs) ≡ drop at xs
suffix_is at xs = take_all (length xs - at) (drop at xs) (sym (length-drop at xs))

pub copied_now : (kind : NodeKind) (cs : List Entry) (items now : List ℕ) (count : ℕ) → now ≡ items → AreInScratch kind cs items count → AreInScratch kind cs now count
copied_now kind cs items now count same d = subst (λ (xs : List ℕ). AreInScratch kind cs xs count) (sym same) d

-- the node after a cut
pub second_leaf : (kind : NodeKind) (c : Entry) (back : List Entry) (bytes : List ℕ) → kind ≡ Leaf → IsNode kind [] (c ∷ back) bytes → IsNode kind (first_of_second kind c) (cells_of_second kind c back) bytes
second_leaf Leaf c back bytes is n = n
second_leaf Inner c back bytes is n = absurd (let bad : Inner ≡ Leaf = is in cc)

pub second_inner : (kind : NodeKind) (c : Entry) (back : List Entry) (first bytes : List ℕ) → kind ≡ Inner → first ≡ c.1 → IsNode kind first back bytes → IsNode kind (first_of_second kind c) (cells_of_second kind c back) bytes
second_inner Leaf c back first bytes is same n = absurd (let bad : Leaf ≡ Inner = is in cc)
second_inner Inner c back first bytes is same n = subst (λ (xs : List ℕ). IsNode Inner xs back bytes) same n

pub record FirstCell (kind : NodeKind) (cells : List ℕ) (c : Entry) (back : List Entry) (key payload : List ℕ) (end : ℕ) : Type 0 where
  pub key_is : key ≡ c.0
  pub payload_is : payload ≡ c.1
  pub after : drop end cells ≡ cells_bytes kind back

pub first_cell : (kind : NodeKind) (cells : List ℕ) (c : Entry) (back : List Entry) (key payload : List ℕ) (end : ℕ) → HasSizes kind (c ∷ back) → cells ≡ cells_bytes kind (c ∷ back) → IsCellAt kind cells 0 key payload end
    → FirstCell kind cells c back key payload end
first_cell kind cells c back key payload end sizes spelled view =
    let ahead : AreCellsAt kind cells 0 (c ∷ back) [] = record { sizes = sizes; spelled = spelled ∙ sym (append-nil (cells_bytes kind (c ∷ back))) } in
    let h : IsHead kind cells (c ∷ back) [] key payload end = head_of kind cells 0 (c ∷ back) [] key payload end ahead (omega arith) view in
    let same : c ≡ h.c = (let e = h.cells_are in cc) in
    let others : back ≡ h.cs = (let e = h.cells_are in cc) in
    record {
      key_is = h.key_is ∙ ap (λ (x : Entry). x.0) (sym same);
      payload_is = h.payload_is ∙ ap (λ (x : Entry). x.1) (sym same);
      after = h.rest.spelled ∙ (append-nil (cells_bytes kind h.cs) ∙ ap (λ (xs : List Entry). cells_bytes kind xs) (sym others));
    }

pub taken_page : {P : Type 0} (g : Ghosts P) (p q : P) (kind : NodeKind) (c : Entry) (back : List Entry) (separator bytes : List ℕ) (r : Result ℕ PageFault) → separator ≡ c.0 → IsNode kind (first_of_second kind c) (cells_of_second kind c back) bytes
    → IfOk r (λ page. Takes page bytes (g.state p) (g.state q)) → (r ≡ Err Malformed → ⊥) → IfErr r (λ f. g.failed_with p q f) → Gives g p q r (λ page. IsTaken kind c back separator page (g.state p) (g.state q))
taken_page g p q kind c back separator bytes (Ok page) same node takes found cause = record { separator_is = same; bytes = bytes; node = node; takes = takes }
taken_page g p q kind c back separator bytes (Err e) same node takes found cause = record { well_formed = λ bad. found (ap (λ (x : PageFault). Err x) bad); cause = inr cause }

-- an entry whose key comes after the others
pub with_last : (key value : List ℕ) (es : List Entry) → AllUnder (Some key) es → with_entry key value es ≡ es ++ ((key, value) ∷ [])
with_last key value [] under = refl
with_last key value (e ∷ es) under = rw under.0 (ap (λ (xs : List Entry). e ∷ xs) (with_last key value es under.1))

pub none_after : (key : List ℕ) (es : List Entry) → AllUnder (Some key) es → length (cells_after key (rest_entries key es)) ≡ 0
none_after key [] under = refl
none_after key (e ∷ es) under = rw under.0 (none_after key es under.1)

pub end_fits : (key value : List ℕ) (es : List Entry) (bytes : List ℕ) → IsNode Leaf [] es bytes → 0 < length es → AllUnder (Some key) es → EndFits Leaf (with_entry key value es)
end_fits key value es bytes node some under =
    record { front = es; back = (key, value) ∷ []; whole = with_last key value es under; some = some; last = refl; front_fits = node_long Leaf [] es bytes node }

-- two parts of one list, of which the first are of one length
same_parts : (xs ys vs ws : List Entry) → length xs ≡ length vs → xs ++ ys ≡ vs ++ ws → (xs ≡ vs) × (ys ≡ ws)
same_parts [] ys [] ws long e = (refl, e)
same_parts [] ys (v ∷ vs) ws long e = absurd (omega (arith, long))
same_parts (x ∷ xs) ys [] ws long e = absurd (omega (arith, long))
same_parts (x ∷ xs) ys (v ∷ vs) ws long e =
    let head : x ≡ v = cc in
    let tail : xs ++ ys ≡ vs ++ ws = cc in
    let rest = same_parts xs ys vs ws (omega (arith, long)) tail in
    (rw (head, rest.0) refl, rest.1)

-- nodes that were split at their end
pub ended : (kind : NodeKind) (first : List ℕ) (cs : List Entry) (page made : ℕ) (separator : List ℕ) (old new : Array) → (w : AreSplit kind first cs page made separator old new) → (e : EndFits kind cs) → suc (length w.back) ≡ min_cells kind → IsCutAtEnd new page made kind first e
ended kind first cs page made separator old new w e few =
    let all : w.front ++ (w.c ∷ w.back) ≡ e.front ++ e.back = sym w.whole ∙ e.whole in
    let long = ap (λ (xs : List Entry). length xs) all in
    let same = same_parts w.front (w.c ∷ w.back) e.front e.back (omega (arith, long, few, e.last, length-append w.front (w.c ∷ w.back), length-append e.front e.back)) all in
    record {
      here = (w.bytes, w.here, subst (λ (xs : List Entry). IsNode kind first xs w.bytes) same.0 w.node);
      c = w.c;
      back = w.back;
      back_is = sym same.1;
      there = (w.second_bytes, w.there, w.second_node);
    }

-- a leaf that stays, and a new one with the entry that came after the others
pub stored_after : (new : Array) (page : ℕ) (key value : List ℕ) (es : List Entry) (bytes : List ℕ) (node : IsNode Leaf [] es bytes) (some : 0 < length es) (under : AllUnder (Some key) es) (r : Result (Option ℕ) PageFault)
    → IfOk r (λ made. IfSome made (λ there. IsCutAtEnd new page there Leaf [] (end_fits key value es bytes node some under)))
    → IfOk r (λ made. IfSome made (λ there. Holds new page Leaf [] es × Holds new there Leaf [] ((key, value) ∷ [])))
unfolding end_fits
stored_after new page key value es bytes node some under (Ok None) h = tt
stored_after new page key value es bytes node some under (Ok (Some there)) h =
    let is : (key, value) ∷ [] ≡ h.c ∷ h.back = h.back_is in
    (h.here, subst (λ (xs : List Entry). Holds new there Leaf [] xs) (sym is) h.there)
stored_after new page key value es bytes node some under (Err f) h = tt
