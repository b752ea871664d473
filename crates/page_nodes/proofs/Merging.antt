-- Cells of a leaf that are edited one after another.
use Rattle.std.proofs.Common.{◌≡◌, ⊎_elim, ℕ, ◌+◌, ◌-◌, ◌<◌, ◌≤◌, true, Option, Some, None, List, [], ◌∷◌, ◌++◌, length, take, drop, refl, sym, ap, ◌∙◌, subst, arith, append_assoc, length-append, length-drop}
use Rattle.std.proofs.lemmas.Bool.{cases_Bool}
use Rattle.std.specs.Prelude.{IfSome}
use Rattle.std.specs.Borrow.{Bor}
use Rattle.page_nodes.specs.declared.cell.NodeKind.{NodeKind}
use Rattle.page_nodes.specs.declared.cell.NodeKind.TheVariants.{Leaf}
use Rattle.page_nodes.specs.declared.merge.LeafMerge.{LeafMerge}
use Rattle.page_nodes.specs.Map.{is_below, Entry, with_entry, without, edited, lent_bytes, low_entries, rest_entries}
use Rattle.page_nodes.specs.Node.{cell_bytes, cells_bytes, HasSizes, IsKeySize, IsPayloadSize, IsNode, zeros_after}
use Rattle.page_nodes.specs.Search.{AreCellsAt, IsPosition}
use Rattle.page_nodes.specs.Scratch.{cells_after}
use Rattle.page_nodes.specs.Merge.{AllBelow, AreMerged}
use Rattle.page_nodes.proofs.Cells.{cell_long}
use Rattle.page_nodes.proofs.Order.{lt_lt}
use Rattle.page_nodes.proofs.EndCut.{sizes_front}
use Rattle.page_nodes.proofs.Scan.{begins, slice_is, cells_append, few_cells, low_rest, edited_is}

-- more than fit
pub exceeds : (bytes : ℕ) → (bytes ≤ 4096 → ⊥) → 4096 < bytes
exceeds bytes not = omega (arith, not)

-- keys before another
below_append : (key : List ℕ) (xs ys : List Entry) → AllBelow key xs → AllBelow key ys → AllBelow key (xs ++ ys)
below_append key [] ys a b = b
below_append key (x ∷ xs) ys a b = (a.0, below_append key xs ys a.1 b)

below_later : (j k : List ℕ) (xs : List Entry) → is_below j k ≡ true → AllBelow j xs → AllBelow k xs
below_later j k [] lt all = tt
below_later j k (x ∷ xs) lt all = (lt_lt x.0 j k all.0 lt, below_later j k xs lt all.1)

low_below : (key : List ℕ) (cells : List Entry) → AllBelow key (low_entries key cells)
low_below key [] = tt
low_below key (c ∷ cs) = ⊎_elim (λ yes. rw yes (yes, low_below key cs)) (λ no. rw no tt) (cases_Bool (is_below c.0 key))

new_below : (key : List ℕ) (value : Option (List ℕ)) (k : List ℕ) → is_below key k ≡ true → AllBelow k (edited key value [])
new_below key (Some value) k lt = (lt, tt)
new_below key None k lt = tt

-- an edit behind them
with_front : (key value : List ℕ) (fs gs : List Entry) → AllBelow key fs → with_entry key value (fs ++ gs) ≡ fs ++ with_entry key value gs
with_front key value [] gs all = refl
with_front key value (f ∷ fs) gs all = rw all.0 (ap (λ (xs : List Entry). f ∷ xs) (with_front key value fs gs all.1))

without_front : (key : List ℕ) (fs gs : List Entry) → AllBelow key fs → without key (fs ++ gs) ≡ fs ++ without key gs
without_front key [] gs all = refl
without_front key (f ∷ fs) gs all = rw all.0 (ap (λ (xs : List Entry). f ∷ xs) (without_front key fs gs all.1))

edited_front : (key : List ℕ) (value : Option (List ℕ)) (fs gs : List Entry) → AllBelow key fs → edited key value (fs ++ gs) ≡ fs ++ edited key value gs
edited_front key (Some value) fs gs all = with_front key value fs gs all
edited_front key None fs gs all = without_front key fs gs all

-- sizes of the parts
sizes_append : (kind : NodeKind) (xs ys : List Entry) → HasSizes kind xs → HasSizes kind ys → HasSizes kind (xs ++ ys)
sizes_append kind [] ys a b = b
sizes_append kind (x ∷ xs) ys a b = (a.0, a.1, sizes_append kind xs ys a.2 b)

low_sizes : (kind : NodeKind) (key : List ℕ) (cells : List Entry) → HasSizes kind cells → HasSizes kind (low_entries key cells)
low_sizes kind key cells sizes = sizes_front kind (low_entries key cells) (rest_entries key cells) (subst (λ (xs : List Entry). HasSizes kind xs) (low_rest key cells) sizes)

pub some_long : (key value : List ℕ) → length (cells_bytes Leaf (edited key (Some value) [])) ≡ 4 + length key + length value
some_long key value = length-append (cell_bytes Leaf (key, value)) [] ∙ omega (arith, cell_long Leaf (key, value))

pub new_sizes : (key : List ℕ) (value : Option (Bor (List ℕ))) → IsKeySize key → IfSome value (λ b. IsPayloadSize Leaf b.now) → HasSizes Leaf (edited key (lent_bytes value) [])
new_sizes key (Some value) size value_size = (size, value_size, tt)
new_sizes key None size value_size = tt

-- all cells of a merge
pub merged_sizes : (bytes scratch last : List ℕ) (cells : List Entry) (m : LeafMerge) → AreMerged bytes scratch last cells m → HasSizes Leaf cells
merged_sizes bytes scratch last cells m a = subst (λ (xs : List Entry). HasSizes Leaf xs) (sym a.whole) (sizes_append Leaf a.front a.rest a.sizes a.here.sizes)

pub front_few : (bytes scratch last : List ℕ) (cells : List Entry) (m : LeafMerge) → AreMerged bytes scratch last cells m → m.count ≤ 4096
front_few bytes scratch last cells m a =
    let all = ap (λ (xs : List Entry). length (cells_bytes Leaf xs)) a.whole ∙ (ap (λ (xs : List ℕ). length xs) (cells_append Leaf a.front a.rest) ∙ length-append (cells_bytes Leaf a.front) (cells_bytes Leaf a.rest)) in
    omega (arith, a.count_is, few_cells Leaf a.front, all, a.fits)

pub rest_few : (bytes scratch last : List ℕ) (cells : List Entry) (m : LeafMerge) → AreMerged bytes scratch last cells m → m.left ≤ 4096
rest_few bytes scratch last cells m a =
    let all = ap (λ (xs : List Entry). length (cells_bytes Leaf xs)) a.whole ∙ (ap (λ (xs : List ℕ). length xs) (cells_append Leaf a.front a.rest) ∙ length-append (cells_bytes Leaf a.front) (cells_bytes Leaf a.rest)) in
    omega (arith, a.left_is, few_cells Leaf a.rest, all, a.fits)

-- where bytes end from two indexes on
rest_long : (bytes : List ℕ) (at end : ℕ) (cells : List Entry) (after : List ℕ) → AreCellsAt Leaf bytes at cells after → drop end bytes ≡ after → length bytes ≡ 4096 → at ≤ 4096 → end ≤ 4096 → at + length (cells_bytes Leaf cells) ≡ end
rest_long bytes at end cells after here is size at_in end_in =
    omega (arith, ap (λ (xs : List ℕ). length xs) here.spelled, ap (λ (xs : List ℕ). length xs) is, length-append (cells_bytes Leaf cells) after, length-drop at bytes, length-drop end bytes, size, at_in, end_in)

pub merged_end : (bytes scratch last : List ℕ) (cells : List Entry) (m : LeafMerge) → (a : AreMerged bytes scratch last cells m) → length bytes ≡ 4096 → m.at ≤ 4096 → m.end ≤ 4096 → m.at + length (cells_bytes Leaf a.rest) ≡ m.end
merged_end bytes scratch last cells m a size at_in end_in = rest_long bytes m.at m.end a.rest a.after a.here a.end_is size at_in end_in

-- the rest of the cells follows in scratch
pub all_spelled : (bytes scratch last : List ℕ) (cells : List Entry) (m : LeafMerge) → (a : AreMerged bytes scratch last cells m) → length bytes ≡ 4096 → m.at ≤ m.end → m.end ≤ 4096 → (out : List ℕ) → out ≡ scratch ++ take (m.end - m.at) (drop m.at bytes)
    → out ≡ cells_bytes Leaf cells
all_spelled bytes scratch last cells m a size order inside out is =
    let slice = slice_is m.at m.end bytes (cells_bytes Leaf a.rest) (a.here.spelled ∙ ap (λ (xs : List ℕ). cells_bytes Leaf a.rest ++ xs) (sym a.end_is)) order (omega (arith, inside, size)) in
    is ∙ (ap (λ (xs : List ℕ). scratch ++ xs) slice ∙ (ap (λ (xs : List ℕ). xs ++ cells_bytes Leaf a.rest) a.spelled ∙ (sym (cells_append Leaf a.front a.rest) ∙ ap (λ (xs : List Entry). cells_bytes Leaf xs) (sym a.whole))))

pub all_counted : (bytes scratch last : List ℕ) (cells : List Entry) (m : LeafMerge) → AreMerged bytes scratch last cells m → m.count + m.left ≡ length cells
all_counted bytes scratch last cells m a = omega (arith, ap (λ (xs : List Entry). length xs) a.whole, length-append a.front a.rest, a.count_is, a.left_is)

-- no cell is in scratch yet
pub begun : (bytes : List ℕ) (cells : List Entry) (m : LeafMerge) → (node : IsNode Leaf [] cells bytes) → m.count ≡ 0 → m.at ≡ 4 → m.left ≡ length cells → drop m.end bytes ≡ zeros_after Leaf [] cells → AreMerged bytes [] [] cells m
begun bytes cells m node count at left end =
    let b = begins Leaf bytes [] cells node in
    record {
      front = [];
      rest = cells;
      after = zeros_after Leaf [] cells;
      whole = refl;
      sizes = tt;
      spelled = refl;
      count_is = count;
      passed = λ k lt. tt;
      here = subst (λ (x : ℕ). AreCellsAt Leaf bytes x cells (zeros_after Leaf [] cells)) (sym at) b.ahead;
      left_is = left;
      end_is = end;
      fits = omega (arith, node.fits);
    }

-- one edit
module _ (bytes scratch last key : List ℕ) (value : Option (List ℕ)) (cells : List Entry) (m : LeafMerge) (a : AreMerged bytes scratch last cells m) (order : is_below last key ≡ true) (size : length bytes ≡ 4096) (at_in : m.at ≤ 4096) (end_in : m.end ≤ 4096)
    (at index left to over : ℕ) (sought : IsPosition Leaf bytes key a.rest a.after at index left) (begins : m.at ≤ at) (ends : at ≤ 4096)
    (tail_at : AreCellsAt Leaf bytes to (cells_after key (rest_entries key a.rest)) a.after) (over_is : over ≡ length (cells_after key (rest_entries key a.rest))) (to_in : to ≤ 4096) where
  abbrev pub low : List Entry
  low = low_entries key a.rest

  abbrev pub new : List Entry
  new = edited key value []

  abbrev pub tail : List Entry
  tail = cells_after key (rest_entries key a.rest)

  edit_is : edited key value cells ≡ (a.front ++ (low ++ new)) ++ tail
  edit_is =
      ap (λ (xs : List Entry). edited key value xs) a.whole ∙ (edited_front key value a.front a.rest (a.passed key order)
      ∙ (ap (λ (xs : List Entry). a.front ++ xs) (edited_is key value a.rest ∙ sym (append_assoc low new tail)) ∙ sym (append_assoc a.front (low ++ new) tail)))

  front_spelled : drop m.at bytes ≡ cells_bytes Leaf low ++ drop at bytes
  front_spelled =
      a.here.spelled ∙ (ap (λ (xs : List Entry). cells_bytes Leaf xs ++ a.after) (low_rest key a.rest) ∙ (ap (λ (xs : List ℕ). xs ++ a.after) (cells_append Leaf low (rest_entries key a.rest))
      ∙ (append_assoc (cells_bytes Leaf low) (cells_bytes Leaf (rest_entries key a.rest)) a.after ∙ ap (λ (xs : List ℕ). cells_bytes Leaf low ++ xs) (sym sought.rest.spelled))))

  -- the bytes of all cells
  pub long_is : length scratch + (at - m.at) + length (cells_bytes Leaf (edited key value [])) + (m.end - to) ≡ length (cells_bytes Leaf (edited key value cells))
  unfolding edit_is front_spelled
  long_is =
      let all = ap (λ (xs : List Entry). length (cells_bytes Leaf xs)) edit_is in
      let one = ap (λ (xs : List ℕ). length xs) (cells_append Leaf (a.front ++ (low ++ new)) tail) ∙ length-append (cells_bytes Leaf (a.front ++ (low ++ new))) (cells_bytes Leaf tail) in
      let two = ap (λ (xs : List ℕ). length xs) (cells_append Leaf a.front (low ++ new)) ∙ length-append (cells_bytes Leaf a.front) (cells_bytes Leaf (low ++ new)) in
      let three = ap (λ (xs : List ℕ). length xs) (cells_append Leaf low new) ∙ length-append (cells_bytes Leaf low) (cells_bytes Leaf new) in
      let passed = ap (λ (xs : List ℕ). length xs) front_spelled ∙ length-append (cells_bytes Leaf low) (drop at bytes) in
      let behind = rest_long bytes to m.end tail a.after tail_at a.end_is size to_in end_in in
      omega (arith, all, one, two, three, passed, behind, length-drop m.at bytes, length-drop at bytes, size, at_in, ends, begins, ap (λ (xs : List ℕ). length xs) a.spelled)

  pub to_before : to ≤ m.end
  to_before = let behind = rest_long bytes to m.end tail a.after tail_at a.end_is size to_in end_in in omega (arith, behind)

  pub edit_merged : (scratch_one scratch_two : List ℕ) (added : ℕ) (n : LeafMerge) → scratch_one ≡ scratch ++ take (at - m.at) (drop m.at bytes) → scratch_two ≡ scratch_one ++ cells_bytes Leaf new → added ≡ length new
      → IsKeySize key → HasSizes Leaf new → 4 + length (cells_bytes Leaf (edited key value cells)) ≤ 4096
      → n.count ≡ m.count + index + added → n.at ≡ to → n.left ≡ over → n.end ≡ m.end → AreMerged bytes scratch_two key (edited key value cells) n
  unfolding edit_is front_spelled
  edit_merged scratch_one scratch_two added n one two count key_size new_sizes fits count_is at_is left_is end_is =
      let slice = slice_is m.at at bytes (cells_bytes Leaf low) front_spelled begins (omega (arith, ends, size)) in
      record {
        front = a.front ++ (low ++ new);
        rest = tail;
        after = a.after;
        whole = edit_is;
        sizes = sizes_append Leaf a.front (low ++ new) a.sizes (sizes_append Leaf low new (low_sizes Leaf key a.rest a.here.sizes) new_sizes);
        spelled = two ∙ (ap (λ (xs : List ℕ). xs ++ cells_bytes Leaf new) (one ∙ (ap (λ (xs : List ℕ). scratch ++ xs) slice ∙ ap (λ (xs : List ℕ). xs ++ cells_bytes Leaf low) a.spelled))
            ∙ (append_assoc (cells_bytes Leaf a.front) (cells_bytes Leaf low) (cells_bytes Leaf new) ∙ (ap (λ (xs : List ℕ). cells_bytes Leaf a.front ++ xs) (sym (cells_append Leaf low new)) ∙ sym (cells_append Leaf a.front (low ++ new)))));
        count_is = omega (arith, count_is, a.count_is, sought.index_is, count, length-append a.front (low ++ new), length-append low new);
        passed = λ k lt. below_append k a.front (low ++ new) (below_later key k a.front lt (a.passed key order))
            (below_append k low new (below_later key k low lt (low_below key a.rest)) (new_below key value k lt));
        here = subst (λ (x : ℕ). AreCellsAt Leaf bytes x tail a.after) (sym at_is) tail_at;
        left_is = left_is ∙ over_is;
        end_is = ap (λ (x : ℕ). drop x bytes) end_is ∙ a.end_is;
        fits = fits;
      }
