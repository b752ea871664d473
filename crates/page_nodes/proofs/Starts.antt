-- Offsets of a node's cells, and where a search starts.
use Rattle.std.proofs.Common.{◌≡◌, inl, inr, ℕ, zero, suc, ◌+◌, ◌*◌, ◌<◌, true, false, List, [], ◌∷◌, ◌++◌, length, take, set, slice_index, Contains, refl, sym, ap, ◌∙◌, subst, arith, append_assoc, length-append}
use Rattle.std.proofs.lemmas.List.{append_cancel_left, get_or_append_left, take_more_set, length-take-le}
use Rattle.std.proofs.lemmas.List.Elements.{Contains-push_cases}
use Rattle.std.proofs.Math.Nat.{eq-or-lt_of_le}
use Rattle.std.proofs.Math.Seq.{take-append_seam, get_or-append_seam}
use Rattle.page_nodes.specs.declared.cell.NodeKind.{NodeKind}
use Rattle.page_nodes.specs.declared.cell.NodeKind.TheVariants.{Inner}
use Rattle.page_nodes.specs.Map.{is_below, Entry, low_entries, rest_entries}
use Rattle.page_nodes.specs.Node.{four_bytes, cells_bytes, HasSizes, IsNode, IsCellAt, start, zeros_after}
use Rattle.page_nodes.specs.Search.{AreCellsAt, IsStart, child_in, cell_past}
use Rattle.page_nodes.specs.Offsets.{HasCellAt, HasOffsets, AreInside}
use Rattle.page_nodes.proofs.Scan.{head_of, begins, Seeks, Branches}
use Rattle.page_nodes.proofs.Order.{one_way, lt_le, lt_lt}

-- one list is split in one way at a length
one_front : (xs ys r s : List Entry) → length xs ≡ length ys → xs ++ r ≡ ys ++ s → xs ≡ ys
one_front xs ys r s long e = sym (take-append_seam xs r) ∙ (ap (λ (zs : List Entry). take (length xs) zs) e ∙ (ap (λ n. take n (ys ++ s)) long ∙ take-append_seam ys s))

one_back : (xs ys r s : List Entry) → length xs ≡ length ys → xs ++ r ≡ ys ++ s → r ≡ s
one_back xs ys r s long e = append_cancel_left xs r s (e ∙ ap (λ (zs : List Entry). zs ++ s) (sym (one_front xs ys r s long e)))

-- a list that is longer than a number is split there
record IsSplit (n : ℕ) (xs : List Entry) : Type 0 where
  pub front : List Entry
  pub cell : Entry
  pub behind : List Entry
  pub all : xs ≡ front ++ (cell ∷ behind)
  pub long : length front ≡ n

split : (n : ℕ) (xs : List Entry) → n < length xs → IsSplit n xs
split n [] more = absurd (omega (arith, more))
split zero (x ∷ xs) more = record { front = []; cell = x; behind = xs; all = refl; long = refl }
split (suc n) (x ∷ xs) more =
    let s = split n xs (omega (arith, more)) in
    record { front = x ∷ s.front; cell = s.cell; behind = s.behind; all = ap (λ (ys : List Entry). x ∷ ys) s.all; long = ap (λ k. suc k) s.long }

sizes_back : (kind : NodeKind) (xs ys : List Entry) → HasSizes kind (xs ++ ys) → HasSizes kind ys
sizes_back kind [] ys s = s
sizes_back kind (x ∷ xs) ys s = sizes_back kind xs ys s.2

-- a walk that lists offsets: these cells are passed, and no key of theirs is after the last
pub record Lists (kind : NodeKind) (bytes last : List ℕ) (cells : List Entry) (after : List ℕ) (at i count : ℕ) : Type 0 where
  pub front : List Entry
  pub rest : List Entry
  pub split : cells ≡ front ++ rest
  pub passed : length front ≡ i
  pub here : AreCellsAt kind bytes at rest after
  pub total : i + length rest ≡ count
  pub below : (key : List ℕ) → is_below last key ≡ true → (e : Entry) → Contains front e → is_below e.0 key ≡ true

pub lists_begin : (kind : NodeKind) (bytes first : List ℕ) (cells : List Entry) (count : ℕ) → IsNode kind first cells bytes → count ≡ length cells
    → Lists kind bytes [] cells (zeros_after kind first cells) (start kind) 0 count
lists_begin kind bytes first cells count node is = record {
  front = [];
  rest = cells;
  split = refl;
  passed = refl;
  here = (begins kind bytes first cells node).ahead;
  total = omega (arith, is);
  below = λ key less e there. absurd (omega (arith, there.1));
}

pub record ListsOn (kind : NodeKind) (bytes : List ℕ) (cells : List Entry) (after key : List ℕ) (at end i count : ℕ) : Type 0 where
  pub on : Lists kind bytes key cells after end (i + 1) count
  pub stands : HasCellAt kind bytes cells after i at

pub lists_on : (kind : NodeKind) (bytes last : List ℕ) (cells : List Entry) (after : List ℕ) (at i count : ℕ) (key payload : List ℕ) (end : ℕ) → Lists kind bytes last cells after at i count → i < count
    → IsCellAt kind bytes at key payload end → true ≡ is_below last key → ListsOn kind bytes cells after key at end i count
lists_on kind bytes last cells after at i count key payload end w more view rises =
    let h = head_of kind bytes at w.rest after key payload end w.here (omega (arith, w.total, more)) view in
    let all : cells ≡ w.front ++ (h.c ∷ h.cs) = w.split ∙ ap (λ (xs : List Entry). w.front ++ xs) h.cells_are in
    let one = ap (λ (xs : List Entry). length xs) h.cells_are in
    record {
      on = record {
        front = w.front ++ (h.c ∷ []);
        rest = h.cs;
        split = all ∙ sym (append_assoc w.front (h.c ∷ []) h.cs);
        passed = omega (arith, length-append w.front (h.c ∷ []), w.passed);
        here = h.rest;
        total = omega (arith, w.total, one);
        below = λ next less e there. elim (Contains-push_cases w.front h.c e there) [
          | inl front ↦ lt_lt e.0 key next (w.below key (sym rises) e front) less
          | inr same ↦ subst (λ (k : List ℕ). is_below k next ≡ true) (h.key_is ∙ ap (λ (d : Entry). d.0) same) less
        ];
      };
      stands = record {
        more = omega (arith, w.passed, w.total, ap (λ (xs : List Entry). length xs) w.split, length-append w.front w.rest, more);
        stands = λ front cell behind is long.
            let same : w.front ++ (h.c ∷ h.cs) ≡ front ++ (cell ∷ behind) = sym all ∙ is in
            let fronts = one_front w.front front (h.c ∷ h.cs) (cell ∷ behind) (w.passed ∙ sym long) same in
            let backs = one_back w.front front (h.c ∷ h.cs) (cell ∷ behind) (w.passed ∙ sym long) same in
            let cell_is : h.c ≡ cell = cc in
            record {
              spelled = w.here.spelled ∙ ap (λ (xs : List Entry). cells_bytes kind xs ++ after) (h.cells_are ∙ backs);
              below = λ e there. w.below cell.0 (subst (λ (k : List ℕ). is_below last k ≡ true) (h.key_is ∙ ap (λ (d : Entry). d.0) cell_is) (sym rises)) e (subst (λ (xs : List Entry). Contains xs e) (sym fronts) there);
            };
      };
    }

-- one offset more
module _ (kind : NodeKind) (bytes : List ℕ) (cells : List Entry) (after : List ℕ) where
  offsets_more : (offsets : List ℕ) (at : ℕ) → HasOffsets kind bytes cells after offsets → HasCellAt kind bytes cells after (8 * length offsets) at → HasOffsets kind bytes cells after (offsets ++ (at ∷ []))
  offsets_more offsets at are stands n less = elim (eq-or-lt_of_le {n = n} {m = length offsets} (omega (arith, less, length-append offsets (at ∷ [])))) [
    | inr old ↦ subst (λ (a : ℕ). HasCellAt kind bytes cells after (8 * n) a) (sym (get_or_append_left offsets (at ∷ []) 0 n old)) (are n old)
    | inl new ↦
        let here : slice_index (offsets ++ (at ∷ [])) (length offsets) ≡ at = get_or-append_seam offsets at [] 0 in
        subst (λ (k : ℕ). HasCellAt kind bytes cells after (8 * k) (slice_index (offsets ++ (at ∷ [])) k)) (sym new) (subst (λ (a : ℕ). HasCellAt kind bytes cells after (8 * length offsets) a) (sym here) stands)
  ]

  pub offsets_stored : (offsets : List ℕ) (count at : ℕ) → count < length offsets → HasOffsets kind bytes cells after (take count offsets) → HasCellAt kind bytes cells after (8 * count) at
      → HasOffsets kind bytes cells after (take (count + 1) (set offsets count at))
  offsets_stored offsets count at room are stands =
      let long : length (take count offsets) ≡ count = length-take-le count offsets (omega (arith, room)) in
      subst (λ (os : List ℕ). HasOffsets kind bytes cells after os) (sym (take_more_set offsets count at room))
      (offsets_more (take count offsets) at are (subst (λ (k : ℕ). HasCellAt kind bytes cells after (8 * k) at) (sym long) stands))

inside_more : (offsets : List ℕ) (at : ℕ) → AreInside offsets → at < 4096 → AreInside (offsets ++ (at ∷ []))
inside_more offsets at are new n less = elim (eq-or-lt_of_le {n = n} {m = length offsets} (omega (arith, less, length-append offsets (at ∷ [])))) [
  | inr old ↦ subst (λ (a : ℕ). a < 4096) (sym (get_or_append_left offsets (at ∷ []) 0 n old)) (are n old)
  | inl end ↦
      let here : slice_index (offsets ++ (at ∷ [])) (length offsets) ≡ at = get_or-append_seam offsets at [] 0 in
      subst (λ (k : ℕ). slice_index (offsets ++ (at ∷ [])) k < 4096) (sym end) (subst (λ (a : ℕ). a < 4096) (sym here) new)
]

pub inside_stored : (offsets : List ℕ) (count at : ℕ) → count < length offsets → AreInside (take count offsets) → at < 4096 → AreInside (take (count + 1) (set offsets count at))
inside_stored offsets count at room are new = subst (λ (os : List ℕ). AreInside os) (sym (take_more_set offsets count at room)) (inside_more (take count offsets) at are new)

-- a search starts at the first cell
pub starts_first : (kind : NodeKind) (bytes key first : List ℕ) (cells : List Entry) → IsNode kind first cells bytes → IsStart kind bytes key cells (zeros_after kind first cells) (start kind) 0
starts_first kind bytes key first cells node = record {
  front = [];
  rest = cells;
  split = refl;
  count = refl;
  here = (begins kind bytes first cells node).ahead;
  below = λ e there. absurd (omega (arith, there.1));
  reached = inl refl;
}

-- or at a cell that is not after its key
pub starts_at : (kind : NodeKind) (bytes key : List ℕ) (cells : List Entry) (after : List ℕ) (number at : ℕ) (view_key payload : List ℕ) (end : ℕ) → HasSizes kind cells → HasCellAt kind bytes cells after number at
    → IsCellAt kind bytes at view_key payload end → false ≡ is_below key view_key → IsStart kind bytes key cells after at number
starts_at kind bytes key cells after number at view_key payload end sizes has view not =
    let s = split number cells has.more in
    let stands = has.stands s.front s.cell s.behind s.all s.long in
    let here : AreCellsAt kind bytes at (s.cell ∷ s.behind) after = record { sizes = sizes_back kind s.front (s.cell ∷ s.behind) (subst (λ (xs : List Entry). HasSizes kind xs) s.all sizes); spelled = stands.spelled } in
    let h = head_of kind bytes at (s.cell ∷ s.behind) after view_key payload end here (omega arith) view in
    let cell_is : h.c ≡ s.cell = let e = h.cells_are in cc in
    let past : is_below key s.cell.0 ≡ false = sym (ap (λ (k : List ℕ). is_below key k) (h.key_is ∙ ap (λ (d : Entry). d.0) cell_is)) ∙ sym not in
    record {
      front = s.front;
      rest = s.cell ∷ s.behind;
      split = s.all;
      count = s.long;
      here = here;
      below = λ e there. lt_le e.0 s.cell.0 key (stands.below e there) past;
      reached = inr (s.cell, s.behind, refl, past);
    }

-- cells that are below the key are passed
below_head : (key : List ℕ) (x : Entry) (xs : List Entry) → ((e : Entry) → Contains (x ∷ xs) e → is_below e.0 key ≡ true) → is_below x.0 key ≡ true
below_head key x xs below = below x (0, omega arith, refl)

below_tail : (key : List ℕ) (x : Entry) (xs : List Entry) → ((e : Entry) → Contains (x ∷ xs) e → is_below e.0 key ≡ true) → (e : Entry) → Contains xs e → is_below e.0 key ≡ true
below_tail key x xs below e there = below e (suc there.0, omega (arith, there.1), there.2)

low_past : (key : List ℕ) (front rest : List Entry) → ((e : Entry) → Contains front e → is_below e.0 key ≡ true) → low_entries key (front ++ rest) ≡ front ++ low_entries key rest
low_past key [] rest below = refl
low_past key (x ∷ xs) rest below = rw (below_head key x xs below) (ap (λ (ys : List Entry). x ∷ ys) (low_past key xs rest (below_tail key x xs below)))

rest_past : (key : List ℕ) (front rest : List Entry) → ((e : Entry) → Contains front e → is_below e.0 key ≡ true) → rest_entries key (front ++ rest) ≡ rest_entries key rest
rest_past key [] rest below = refl
rest_past key (x ∷ xs) rest below = rw (below_head key x xs below) (rest_past key xs rest (below_tail key x xs below))

cell_behind : (key : List ℕ) (front rest : List Entry) → ((e : Entry) → Contains front e → is_below e.0 key ≡ true) → cell_past key (front ++ rest) ≡ cell_past key rest
cell_behind key [] rest below = refl
cell_behind key (x ∷ xs) rest below = rw (one_way x.0 key (below_head key x xs below)) (cell_behind key xs rest (below_tail key x xs below))

child_past : (key first : List ℕ) (front : List Entry) (c : Entry) (cs : List Entry) → ((e : Entry) → Contains front e → is_below e.0 key ≡ true) → is_below key c.0 ≡ false
    → child_in key first (front ++ (c ∷ cs)) ≡ child_in key c.1 cs
child_past key first [] c cs below not = rw not refl
child_past key first (x ∷ xs) c cs below not = rw (one_way x.0 key (below_head key x xs below)) (child_past key x.1 xs c cs (below_tail key x xs below) not)

pub seeks_start : (kind : NodeKind) (bytes key : List ℕ) (cells : List Entry) (after : List ℕ) (at index count : ℕ) → IsStart kind bytes key cells after at index → count ≡ length cells → Seeks kind bytes key cells after at index count
seeks_start kind bytes key cells after at index count s is =
    let low = ap (λ (xs : List Entry). length xs) (ap (λ (xs : List Entry). low_entries key xs) s.split ∙ low_past key s.front s.rest s.below) in
    record {
      rest = s.rest;
      here = s.here;
      total = omega (arith, is, s.count, ap (λ (xs : List Entry). length xs) s.split, length-append s.front s.rest);
      number = omega (arith, low, s.count, length-append s.front (low_entries key s.rest));
      others = ap (λ (xs : List Entry). rest_entries key xs) s.split ∙ rest_past key s.front s.rest s.below;
    }

pub branches_start : (bytes key first : List ℕ) (cells : List Entry) (after : List ℕ) (child at index count : ℕ) → IsStart Inner bytes key cells after at index → four_bytes child ≡ first → count ≡ length cells
    → Branches bytes key first cells after child at index count
branches_start bytes key first cells after child at index count s child_is is = record {
  rest = s.rest;
  here = s.here;
  total = omega (arith, is, s.count, ap (λ (xs : List Entry). length xs) s.split, length-append s.front s.rest);
  child_is = elim s.reached [
    | inl none ↦ ap (λ (xs : List Entry). child_in key first xs) (s.split ∙ ap (λ (xs : List Entry). xs ++ s.rest) none) ∙ ap (λ (p : List ℕ). child_in key p s.rest) (sym child_is)
    | inr some ↦
        let here : child_in key (four_bytes child) (some.0 ∷ some.1) ≡ child_in key some.0.1 some.1 = rw some.3 refl in
        ap (λ (xs : List Entry). child_in key first xs) (s.split ∙ ap (λ (xs : List Entry). s.front ++ xs) some.2) ∙ (child_past key first s.front some.0 some.1 s.below some.3
        ∙ (sym here ∙ ap (λ (xs : List Entry). child_in key (four_bytes child) xs) (sym some.2)))
  ];
  past_is = ap (λ (xs : List Entry). cell_past key xs) s.split ∙ cell_behind key s.front s.rest s.below;
}
