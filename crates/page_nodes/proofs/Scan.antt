-- Cells that come one after another.
use Rattle.std.proofs.Common.{◌≡◌, ⊎_elim, ℕ, ◌+◌, ◌-◌, ◌<◌, ◌≤◌, true, false, List, [], ◌∷◌, ◌++◌, Option, Some, None, length, drop, take, refl, sym, ap, ◌∙◌, append_assoc, arith, length-append, length-drop}
use Rattle.std.proofs.lemmas.Bool.{cases_Bool}
use Rattle.std.proofs.lemmas.List.{append_cancel_left}
use Rattle.std.proofs.Math.Seq.{take-append_seam}
use Rattle.page_nodes.specs.declared.cell.NodeKind.{NodeKind}
use Rattle.page_nodes.specs.declared.cell.NodeKind.TheVariants.{Leaf, Inner}
use Rattle.page_nodes.specs.declared.cell.CellView.{CellView}
use Rattle.page_nodes.specs.Map.{Entry, is_below, first_at, value_for, low_entries, rest_entries, with_entry, without, edited}
use Rattle.page_nodes.specs.Node.{two_bytes, four_bytes, IsKeySize, IsPayloadSize, cell_bytes, cells_bytes, IsCellAt, IsNode, IsFirst, zeros_after, start}
use Rattle.page_nodes.specs.Search.{AreCellsAt, IsPosition, child_in, later_in, cell_past, IsPage, pair_from, IsLent}
use Rattle.page_nodes.specs.Scratch.{max_cell_length, cells_after}
use Rattle.page_nodes.proofs.Cells.{two_same, cell_long, ahead_more, part_ahead}

-- two lists with fronts of one length
pub fronts : (xs ys r s : List ℕ) → length xs ≡ length ys → xs ++ r ≡ ys ++ s → xs ≡ ys
fronts xs ys r s long e = sym (take-append_seam xs r) ∙ (ap (λ (zs : List ℕ). take (length xs) zs) e ∙ (ap (λ n. take n (ys ++ s)) long ∙ take-append_seam ys s))

pub backs : (xs ys r s : List ℕ) → length xs ≡ length ys → xs ++ r ≡ ys ++ s → r ≡ s
backs xs ys r s long e = append_cancel_left xs r s (e ∙ ap (λ (zs : List ℕ). zs ++ s) (sym (fronts xs ys r s long e)))

-- one cell is spelled
pub record IsOneCell (c d : Entry) (r s : List ℕ) : Type 0 where
  pub key : c.0 ≡ d.0
  pub payload : c.1 ≡ d.1
  pub after : r ≡ s

pub one_cell : (kind : NodeKind) (c d : Entry) (r s : List ℕ) → IsKeySize c.0 → IsPayloadSize kind c.1 → IsKeySize d.0 → IsPayloadSize kind d.1 → cell_bytes kind c ++ r ≡ cell_bytes kind d ++ s → IsOneCell c d r s
unfolding cell_bytes
one_cell Leaf c d r s ck cb dk db e =
    let all : two_bytes (length c.0) ++ (two_bytes (length c.1) ++ ((c.0 ++ c.1) ++ r)) ≡ two_bytes (length d.0) ++ (two_bytes (length d.1) ++ ((d.0 ++ d.1) ++ s)) = e in
    let key_long = two_same (length c.0) (length d.0) _ _ (omega (arith, ck.1)) (omega (arith, dk.1)) all in
    let rest : two_bytes (length c.1) ++ ((c.0 ++ c.1) ++ r) ≡ two_bytes (length d.1) ++ ((d.0 ++ d.1) ++ s) = ap (λ (xs : List ℕ). drop 2 xs) all in
    let payload_long = two_same (length c.1) (length d.1) _ _ (omega (arith, cb)) (omega (arith, db)) rest in
    let both : (c.0 ++ c.1) ++ r ≡ (d.0 ++ d.1) ++ s = ap (λ (xs : List ℕ). drop 2 xs) rest in
    let apart : c.0 ++ (c.1 ++ r) ≡ d.0 ++ (d.1 ++ s) = sym (append_assoc c.0 c.1 r) ∙ (both ∙ append_assoc d.0 d.1 s) in
    let payloads = backs c.0 d.0 (c.1 ++ r) (d.1 ++ s) key_long apart in
    record { key = fronts c.0 d.0 (c.1 ++ r) (d.1 ++ s) key_long apart; payload = fronts c.1 d.1 r s payload_long payloads; after = backs c.1 d.1 r s payload_long payloads }
one_cell Inner c d r s ck cb dk db e =
    let all : two_bytes (length c.0) ++ ((c.1 ++ c.0) ++ r) ≡ two_bytes (length d.0) ++ ((d.1 ++ d.0) ++ s) = e in
    let key_long = two_same (length c.0) (length d.0) _ _ (omega (arith, ck.1)) (omega (arith, dk.1)) all in
    let both : (c.1 ++ c.0) ++ r ≡ (d.1 ++ d.0) ++ s = ap (λ (xs : List ℕ). drop 2 xs) all in
    let apart : c.1 ++ (c.0 ++ r) ≡ d.1 ++ (d.0 ++ s) = sym (append_assoc c.1 c.0 r) ∙ (both ∙ append_assoc d.1 d.0 s) in
    let payload_long : length c.1 ≡ length d.1 = cb ∙ sym db in
    let keys = backs c.1 d.1 (c.0 ++ r) (d.0 ++ s) payload_long apart in
    record { key = fronts c.0 d.0 r s key_long keys; payload = fronts c.1 d.1 (c.0 ++ r) (d.0 ++ s) payload_long apart; after = backs c.0 d.0 r s key_long keys }

-- the first of the cells at a place
pub head_spelled : (kind : NodeKind) (bytes : List ℕ) (at : ℕ) (c : Entry) (cs : List Entry) (after : List ℕ) → AreCellsAt kind bytes at (c ∷ cs) after → drop at bytes ≡ cell_bytes kind c ++ (cells_bytes kind cs ++ after)
head_spelled kind bytes at c cs after a = a.spelled ∙ append_assoc (cell_bytes kind c) (cells_bytes kind cs) after

-- no cell is read at a place only where none stands
pub unread : (kind : NodeKind) (bytes : List ℕ) (at : ℕ) (cells : List Entry) (after : List ℕ) → AreCellsAt kind bytes at cells after → 0 < length cells
    → ((c : Entry) (rest : List ℕ) → IsKeySize c.0 → IsPayloadSize kind c.1 → drop at bytes ≡ cell_bytes kind c ++ rest → ⊥) → ⊥
unread kind bytes at [] after a some none = omega (arith, some)
unread kind bytes at (c ∷ cs) after a some none = none c (cells_bytes kind cs ++ after) a.sizes.0 a.sizes.1 (head_spelled kind bytes at c cs after a)

-- what is read at a place is the first of the cells there
pub record IsHead (kind : NodeKind) (bytes : List ℕ) (cells : List Entry) (after key payload : List ℕ) (end : ℕ) : Type 0 where
  pub c : Entry
  pub cs : List Entry
  pub cells_are : cells ≡ c ∷ cs
  pub key_is : key ≡ c.0
  pub payload_is : payload ≡ c.1
  pub rest : AreCellsAt kind bytes end cs after

pub head_of : (kind : NodeKind) (bytes : List ℕ) (at : ℕ) (cells : List Entry) (after key payload : List ℕ) (end : ℕ) → AreCellsAt kind bytes at cells after → 0 < length cells → IsCellAt kind bytes at key payload end
    → IsHead kind bytes cells after key payload end
head_of kind bytes at [] after key payload end a some view = absurd (omega (arith, some))
head_of kind bytes at (c ∷ cs) after key payload end a some view =
    let one = one_cell kind (key, payload) c (drop end bytes) (cells_bytes kind cs ++ after) view.key_size view.payload_size a.sizes.0 a.sizes.1 (sym view.spelled ∙ head_spelled kind bytes at c cs after a) in
    record { c = c; cs = cs; cells_are = refl; key_is = one.key; payload_is = one.payload; rest = record { sizes = a.sizes.2; spelled = one.after } }

pub start_small : (kind : NodeKind) → start kind ≤ 8
start_small Leaf = omega arith
start_small Inner = omega arith

-- a node's cells
cell_some : (kind : NodeKind) (c : Entry) → 1 ≤ length (cell_bytes kind c)
cell_some Leaf c = omega (arith, cell_long Leaf c)
cell_some Inner c = omega (arith, cell_long Inner c)

pub few_cells : (kind : NodeKind) (cs : List Entry) → length cs ≤ length (cells_bytes kind cs)
few_cells kind [] = omega arith
few_cells kind (c ∷ cs) = omega (arith, cell_some kind c, few_cells kind cs, length-append (cell_bytes kind c) (cells_bytes kind cs))

pub record Begins (kind : NodeKind) (bytes first : List ℕ) (cells : List Entry) : Type 0 where
  pub more : List ℕ
  pub count : drop 2 bytes ≡ two_bytes (length cells) ++ more
  pub small : length cells < 65536
  pub ahead : AreCellsAt kind bytes (start kind) cells (zeros_after kind first cells)
  pub first_is : take (start kind - 4) (drop 4 bytes) ≡ first

pub begins : (kind : NodeKind) (bytes first : List ℕ) (cells : List Entry) → IsNode kind first cells bytes → Begins kind bytes first cells
begins kind bytes first cells n =
    let zeros = zeros_after kind first cells in
    let tail : drop 4 bytes ≡ first ++ (cells_bytes kind cells ++ zeros) = ap (λ (bs : List ℕ). drop 4 bs) n.spelled ∙ append_assoc first (cells_bytes kind cells) zeros in
    record {
      more = (first ++ cells_bytes kind cells) ++ zeros;
      count = ap (λ (bs : List ℕ). drop 2 bs) n.spelled;
      small = omega (arith, n.fits, few_cells kind cells, length-append first (cells_bytes kind cells));
      ahead = record { sizes = n.sizes; spelled = at_start kind n.first_size tail };
      first_is = at_first kind n.first_size tail;
    }
  where
    at_start : (kind : NodeKind) → IsFirst kind first → drop 4 bytes ≡ first ++ (cells_bytes kind cells ++ zeros_after kind first cells) → drop (start kind) bytes ≡ cells_bytes kind cells ++ zeros_after kind first cells
    at_start Leaf long tail = ahead_more 4 0 bytes first _ long tail
    at_start Inner long tail = ahead_more 4 4 bytes first _ long tail

    at_first : (kind : NodeKind) → IsFirst kind first → drop 4 bytes ≡ first ++ (cells_bytes kind cells ++ zeros_after kind first cells) → take (start kind - 4) (drop 4 bytes) ≡ first
    at_first Leaf long tail = part_ahead 4 0 bytes first _ long tail
    at_first Inner long tail = part_ahead 4 4 bytes first _ long tail

-- how long a cell that is read is
pub cell_ends : (kind : NodeKind) (bytes : List ℕ) (at : ℕ) (key payload : List ℕ) (end : ℕ) → IsCellAt kind bytes at key payload end → end ≡ at + length (cell_bytes kind (key, payload))
cell_ends kind bytes at key payload end view =
    let long = ap (λ (xs : List ℕ). length xs) view.spelled in
    omega (arith, long, length-append (cell_bytes kind (key, payload)) (drop end bytes), length-drop at bytes, length-drop end bytes, view.order, view.inside)

pub short_cell : (kind : NodeKind) (c : Entry) → IsKeySize c.0 → IsPayloadSize kind c.1 → length (cell_bytes kind c) ≤ max_cell_length kind
short_cell Leaf c ck cb = omega (arith, cell_long Leaf c, ck.1, cb)
short_cell Inner c ck cb = omega (arith, cell_long Inner c, ck.1, cb)

-- what stands between two places
pub slice_is : (a b : ℕ) (bytes xs : List ℕ) → drop a bytes ≡ xs ++ drop b bytes → a ≤ b → b ≤ length bytes → take (b - a) (drop a bytes) ≡ xs
slice_is a b bytes xs e order inside =
    let long = ap (λ (zs : List ℕ). length zs) e in
    part_ahead a (b - a) bytes xs (drop b bytes) (omega (arith, long, length-append xs (drop b bytes), length-drop a bytes, length-drop b bytes, order, inside)) e

pub cells_append : (kind : NodeKind) (xs ys : List Entry) → cells_bytes kind (xs ++ ys) ≡ cells_bytes kind xs ++ cells_bytes kind ys
cells_append kind [] ys = refl
cells_append kind (x ∷ xs) ys = ap (λ (zs : List ℕ). cell_bytes kind x ++ zs) (cells_append kind xs ys) ∙ sym (append_assoc (cell_bytes kind x) (cells_bytes kind xs) (cells_bytes kind ys))

-- a walk over cells: so many are passed
pub record Walks (kind : NodeKind) (bytes : List ℕ) (at i count : ℕ) (after : List ℕ) : Type 0 where
  pub rest : List Entry
  pub here : AreCellsAt kind bytes at rest after
  pub total : i + length rest ≡ count

pub walks_some : (kind : NodeKind) (bytes : List ℕ) (at i count : ℕ) (after : List ℕ) (w : Walks kind bytes at i count after) → i < count → 0 < length w.rest
walks_some kind bytes at i count after w more = omega (arith, w.total, more)

pub walks_on : (kind : NodeKind) (bytes : List ℕ) (at i count : ℕ) (after key payload : List ℕ) (end : ℕ) → Walks kind bytes at i count after → i < count → IsCellAt kind bytes at key payload end → Walks kind bytes end (i + 1) count after
walks_on kind bytes at i count after key payload end w more view =
    let h = head_of kind bytes at w.rest after key payload end w.here (omega (arith, w.total, more)) view in
    record { rest = h.cs; here = h.rest; total = omega (arith, w.total, ap (λ (xs : List Entry). length xs) h.cells_are) }

pub walks_end : (kind : NodeKind) (bytes : List ℕ) (at i count : ℕ) (after : List ℕ) → Walks kind bytes at i count after → count ≤ i → drop at bytes ≡ after
walks_end kind bytes at i count after w done = none w.rest w.here (omega (arith, w.total, done))
  where
    none : (rest : List Entry) → AreCellsAt kind bytes at rest after → length rest ≡ 0 → drop at bytes ≡ after
    none [] a e = a.spelled
    none (x ∷ xs) a e = absurd (omega (arith, e))

-- a search: the cells that are passed are below the key
pub record Seeks (kind : NodeKind) (bytes key : List ℕ) (cells : List Entry) (after : List ℕ) (at i count : ℕ) : Type 0 where
  pub rest : List Entry
  pub here : AreCellsAt kind bytes at rest after
  pub total : i + length rest ≡ count
  pub number : i + length (low_entries key rest) ≡ length (low_entries key cells)
  pub others : rest_entries key cells ≡ rest_entries key rest

pub seeks_among : (kind : NodeKind) (bytes key : List ℕ) (cells : List Entry) (after : List ℕ) (at count : ℕ) → AreCellsAt kind bytes at cells after → count ≡ length cells → Seeks kind bytes key cells after at 0 count
seeks_among kind bytes key cells after at count are is = record { rest = cells; here = are; total = omega (arith, is); number = omega arith; others = refl }

pub seeks_end : (kind : NodeKind) (bytes key : List ℕ) (cells : List Entry) (after : List ℕ) (at i count : ℕ) → Seeks kind bytes key cells after at i count → count ≤ i → IsPosition kind bytes key cells after at count 0
seeks_end kind bytes key cells after at i count s done = none s.rest s.here s.total s.number s.others
  where
    none : (rest : List Entry) → AreCellsAt kind bytes at rest after → i + length rest ≡ count → i + length (low_entries key rest) ≡ length (low_entries key cells) → rest_entries key cells ≡ rest_entries key rest
        → IsPosition kind bytes key cells after at count 0
    none [] a total number others = record { rest = rw others a; index_is = omega (arith, total, number); left_is = sym (ap (λ (xs : List Entry). length xs) others) }
    none (x ∷ xs) a total number others = absurd (omega (arith, total, done))

pub record SeeksOn (kind : NodeKind) (bytes key : List ℕ) (cells : List Entry) (after : List ℕ) (at i count : ℕ) (view_key : List ℕ) (end : ℕ) : Type 0 where
  pub stops : false ≡ is_below view_key key → IsPosition kind bytes key cells after at i (count - i)
  pub goes_on : true ≡ is_below view_key key → Seeks kind bytes key cells after end (i + 1) count

pub seeks_on : (kind : NodeKind) (bytes key : List ℕ) (cells : List Entry) (after : List ℕ) (at i count : ℕ) (view_key payload : List ℕ) (end : ℕ) → Seeks kind bytes key cells after at i count → i < count
    → IsCellAt kind bytes at view_key payload end → SeeksOn kind bytes key cells after at i count view_key end
seeks_on kind bytes key cells after at i count view_key payload end s more view = on (head_of kind bytes at s.rest after view_key payload end s.here (omega (arith, s.total, more)) view)
  where
    on : IsHead kind bytes s.rest after view_key payload end → SeeksOn kind bytes key cells after at i count view_key end
    on h =
        let below_is = ap (λ (k : List ℕ). is_below k key) h.key_is in
        let total = ap (λ (xs : List Entry). length xs) h.cells_are in
        let low = ap (λ (xs : List Entry). length (low_entries key xs)) h.cells_are in
        let others = s.others ∙ ap (λ (xs : List Entry). rest_entries key xs) h.cells_are in
        record {
          stops = λ not_less.
              let one : is_below h.c.0 key ≡ false = sym below_is ∙ sym not_less in
              let here : low_entries key (h.c ∷ h.cs) ≡ [] = rw one refl in
              let all : rest_entries key (h.c ∷ h.cs) ≡ h.c ∷ h.cs = rw one refl in
              let same : rest_entries key cells ≡ s.rest = others ∙ (all ∙ sym h.cells_are) in
              record {
                rest = rw same s.here;
                index_is = omega (arith, s.number, low, ap (λ (xs : List Entry). length xs) here);
                left_is = omega (arith, s.total, ap (λ (xs : List Entry). length xs) same, more);
              };
          goes_on = λ below.
              let one : is_below h.c.0 key ≡ true = sym below_is ∙ sym below in
              let here : low_entries key (h.c ∷ h.cs) ≡ h.c ∷ low_entries key h.cs = rw one refl in
              let all : rest_entries key (h.c ∷ h.cs) ≡ rest_entries key h.cs = rw one refl in
              record {
                rest = h.cs;
                here = h.rest;
                total = omega (arith, s.total, total);
                number = omega (arith, s.number, low, ap (λ (xs : List Entry). length xs) here);
                others = others ∙ all;
              };
        }

-- a walk to the child of a key
pub record Branches (bytes key first : List ℕ) (cells : List Entry) (after : List ℕ) (child at i count : ℕ) : Type 0 where
  pub rest : List Entry
  pub here : AreCellsAt Inner bytes at rest after
  pub total : i + length rest ≡ count
  pub child_is : child_in key first cells ≡ child_in key (four_bytes child) rest
  pub past_is : cell_past key cells ≡ cell_past key rest

pub branches_end : (bytes key first : List ℕ) (cells : List Entry) (after : List ℕ) (child at i count : ℕ) → Branches bytes key first cells after child at i count → count ≤ i
    → (four_bytes child ≡ child_in key first cells) × IsLent (cell_past key cells) None
branches_end bytes key first cells after child at i count b done = none b.rest b.total b.child_is b.past_is
  where
    none : (rest : List Entry) → i + length rest ≡ count → child_in key first cells ≡ child_in key (four_bytes child) rest → cell_past key cells ≡ cell_past key rest
        → (four_bytes child ≡ child_in key first cells) × IsLent (cell_past key cells) None
    none [] total child_is past_is = (sym child_is, rw past_is tt)
    none (x ∷ xs) total child_is past_is = absurd (omega (arith, total, done))

pub record BranchesOn (bytes key first : List ℕ) (cells : List Entry) (after : List ℕ) (child at i count : ℕ) (view : CellView) : Type 0 where
  pub stops : true ≡ is_below key view.key.now → (four_bytes child ≡ child_in key first cells) × IsLent (cell_past key cells) (Some view)
  pub goes_on : false ≡ is_below key view.key.now → (next : ℕ) → four_bytes next ≡ view.payload.now → Branches bytes key first cells after next view.end (i + 1) count

pub branches_on : (bytes key first : List ℕ) (cells : List Entry) (after : List ℕ) (child at i count : ℕ) (view : CellView) → Branches bytes key first cells after child at i count → i < count
    → IsCellAt Inner bytes at view.key.now view.payload.now view.end → BranchesOn bytes key first cells after child at i count view
branches_on bytes key first cells after child at i count view b more is =
    on (head_of Inner bytes at b.rest after view.key.now view.payload.now view.end b.here (omega (arith, b.total, more)) is)
  where
    on : IsHead Inner bytes b.rest after view.key.now view.payload.now view.end → BranchesOn bytes key first cells after child at i count view
    on h =
        let below_is = ap (λ (k : List ℕ). is_below key k) h.key_is in
        let total = ap (λ (xs : List Entry). length xs) h.cells_are in
        let child_is = b.child_is ∙ ap (λ (xs : List Entry). child_in key (four_bytes child) xs) h.cells_are in
        let past_is = b.past_is ∙ ap (λ (xs : List Entry). cell_past key xs) h.cells_are in
        record {
          stops = λ below.
              let one : is_below key h.c.0 ≡ true = sym below_is ∙ sym below in
              let here : child_in key (four_bytes child) (h.c ∷ h.cs) ≡ four_bytes child = rw one refl in
              let there : cell_past key (h.c ∷ h.cs) ≡ Some h.c = rw one refl in
              let found : cell_past key cells ≡ Some h.c = past_is ∙ there in
              (sym (child_is ∙ here), rw found (h.key_is, h.payload_is));
          goes_on = λ not_less next same.
              let one : is_below key h.c.0 ≡ false = sym below_is ∙ sym not_less in
              let here : child_in key (four_bytes child) (h.c ∷ h.cs) ≡ child_in key h.c.1 h.cs = rw one refl in
              let there : cell_past key (h.c ∷ h.cs) ≡ cell_past key h.cs = rw one refl in
              record {
                rest = h.cs;
                here = h.rest;
                total = omega (arith, b.total, total);
                child_is = child_is ∙ (here ∙ ap (λ (p : List ℕ). child_in key p h.cs) (sym (same ∙ h.payload_is)));
                past_is = past_is ∙ there;
              };
        }

-- the child after that of a key is the payload of the first cell past the key
pub later_some : (key : List ℕ) (cells : List Entry) (view : CellView) (later : ℕ) → IsLent (cell_past key cells) (Some view) → four_bytes later ≡ view.payload.now → IsPage (later_in key cells) (Some later)
later_some key [] view later lent is = absurd lent
later_some key (c ∷ cs) view later lent is =
    ⊎_elim (λ yes. let e : (view.key.now ≡ c.0) × (view.payload.now ≡ c.1) = rw yes at lent in rw yes (is ∙ e.1))
    (λ no. let e : IsLent (cell_past key cs) (Some view) = rw no at lent in rw no (later_some key cs view later e is)) (cases_Bool (is_below key c.0))

pub later_none : (key : List ℕ) (cells : List Entry) → IsLent (cell_past key cells) None → IsPage (later_in key cells) None
later_none key [] lent = tt
later_none key (c ∷ cs) lent =
    ⊎_elim (λ yes. absurd (rw yes at lent)) (λ no. let e : IsLent (cell_past key cs) None = rw no at lent in rw no (later_none key cs e)) (cases_Bool (is_below key c.0))

-- a walk to the pair of a key
pub record Pairs (bytes key first : List ℕ) (c : Entry) (cells : List Entry) (after : List ℕ) (left : ℕ) (right_key right_body : List ℕ) (at i count : ℕ) : Type 0 where
  pub rest : List Entry
  pub here : AreCellsAt Inner bytes at rest after
  pub total : i + length rest ≡ count
  pub pair_is : pair_from key first c cells ≡ pair_from key (four_bytes left) (right_key, right_body) rest

abbrev pub IsPair : List ℕ → List ℕ → Entry → List Entry → ℕ → List ℕ → ℕ → Type 0
IsPair key first c cells left right_key right =
    let pair = pair_from key first c cells in (four_bytes left ≡ pair.0) × (right_key ≡ pair.1.0) × (four_bytes right ≡ pair.1.1)

pub pairs_end : (bytes key first : List ℕ) (c : Entry) (cells : List Entry) (after : List ℕ) (left : ℕ) (right_key right_body : List ℕ) (at i count right : ℕ)
    → Pairs bytes key first c cells after left right_key right_body at i count → count ≤ i → four_bytes right ≡ right_body → IsPair key first c cells left right_key right
pairs_end bytes key first c cells after left right_key right_body at i count right p done is = none p.rest p.total p.pair_is
  where
    none : (rest : List Entry) → i + length rest ≡ count → pair_from key first c cells ≡ pair_from key (four_bytes left) (right_key, right_body) rest → IsPair key first c cells left right_key right
    none [] total pair_is = rw pair_is (refl, refl, is)
    none (x ∷ xs) total pair_is = absurd (omega (arith, total, done))

pub record PairsOn (bytes key first : List ℕ) (c : Entry) (cells : List Entry) (after : List ℕ) (left : ℕ) (right_key right_body : List ℕ) (at i count : ℕ) (view_key payload : List ℕ) (end : ℕ) : Type 0 where
  pub stops : true ≡ is_below key view_key → (right : ℕ) → four_bytes right ≡ right_body → IsPair key first c cells left right_key right
  pub goes_on : false ≡ is_below key view_key → (next : ℕ) → four_bytes next ≡ right_body → Pairs bytes key first c cells after next view_key payload end (i + 1) count

pub pairs_on : (bytes key first : List ℕ) (c : Entry) (cells : List Entry) (after : List ℕ) (left : ℕ) (right_key right_body : List ℕ) (at i count : ℕ) (view_key payload : List ℕ) (end : ℕ)
    → Pairs bytes key first c cells after left right_key right_body at i count → i < count
    → IsCellAt Inner bytes at view_key payload end → PairsOn bytes key first c cells after left right_key right_body at i count view_key payload end
pairs_on bytes key first c cells after left right_key right_body at i count view_key payload end p more view = on (head_of Inner bytes at p.rest after view_key payload end p.here (omega (arith, p.total, more)) view)
  where
    on : IsHead Inner bytes p.rest after view_key payload end → PairsOn bytes key first c cells after left right_key right_body at i count view_key payload end
    on h =
        let below_is = ap (λ (k : List ℕ). is_below key k) h.key_is in
        let total = ap (λ (xs : List Entry). length xs) h.cells_are in
        let pair_is = p.pair_is ∙ ap (λ (xs : List Entry). pair_from key (four_bytes left) (right_key, right_body) xs) h.cells_are in
        record {
          stops = λ below right is.
              let one : is_below key h.c.0 ≡ true = sym below_is ∙ sym below in
              let here : pair_from key (four_bytes left) (right_key, right_body) (h.c ∷ h.cs) ≡ (four_bytes left, (right_key, right_body)) = rw one refl in
              rw (pair_is ∙ here) (refl, refl, is);
          goes_on = λ not_less next is.
              let one : is_below key h.c.0 ≡ false = sym below_is ∙ sym not_less in
              let here : pair_from key (four_bytes left) (right_key, right_body) (h.c ∷ h.cs) ≡ pair_from key right_body h.c h.cs = rw one refl in
              record {
                rest = h.cs;
                here = h.rest;
                total = omega (arith, p.total, total);
                pair_is = pair_is ∙ (here ∙ (rw (is, h.key_is, h.payload_is) refl));
              };
        }

module _ (kind : NodeKind) (bytes key : List ℕ) (at : ℕ) where
  pub skips_none : (cells : List Entry) (after : List ℕ) → AreCellsAt kind bytes at cells after → length cells ≡ 0 → AreCellsAt kind bytes at (cells_after key cells) after × (0 ≡ length (cells_after key cells))
  skips_none [] after are none = (are, refl)
  skips_none (x ∷ xs) after are none = absurd (omega (arith, none))

  pub skips_less : (left : ℕ) (cells : List Entry) (after view_key payload : List ℕ) (end : ℕ) → AreCellsAt kind bytes at cells after → left ≡ length cells → 0 < left → IsCellAt kind bytes at view_key payload end → true ≡ is_below key view_key
      → AreCellsAt kind bytes at (cells_after key cells) after × (left ≡ length (cells_after key cells))
  skips_less left cells after view_key payload end are count some view below =
      let h = head_of kind bytes at cells after view_key payload end are (omega (arith, count, some)) view in
      let one : is_below key h.c.0 ≡ true = sym (ap (λ (k : List ℕ). is_below key k) h.key_is) ∙ sym below in
      let here : cells_after key (h.c ∷ h.cs) ≡ h.c ∷ h.cs = rw one refl in
      let all : cells_after key cells ≡ cells = ap (λ (xs : List Entry). cells_after key xs) h.cells_are ∙ (here ∙ sym h.cells_are) in
      (rw all are, rw all count)

  pub skips_same : (left : ℕ) (cells : List Entry) (after view_key payload : List ℕ) (end : ℕ) → AreCellsAt kind bytes at cells after → left ≡ length cells → 0 < left → IsCellAt kind bytes at view_key payload end → false ≡ is_below key view_key
      → AreCellsAt kind bytes end (cells_after key cells) after × (left - 1 ≡ length (cells_after key cells))
  skips_same left cells after view_key payload end are count some view below =
      let h = head_of kind bytes at cells after view_key payload end are (omega (arith, count, some)) view in
      let one : is_below key h.c.0 ≡ false = sym (ap (λ (k : List ℕ). is_below key k) h.key_is) ∙ sym below in
      let here : cells_after key (h.c ∷ h.cs) ≡ h.cs = rw one refl in
      let all : cells_after key cells ≡ h.cs = ap (λ (xs : List Entry). cells_after key xs) h.cells_are ∙ here in
      let long = ap (λ (xs : List Entry). length xs) h.cells_are in
      (rw all h.rest, rw all (omega (arith, count, long)))

-- the least entry from a key on
first_rest : (key : List ℕ) (cells : List Entry) → first_at key cells ≡ first_at key (rest_entries key cells)
first_rest key [] = refl
first_rest key (c ∷ cs) = ⊎_elim (λ yes. rw yes (first_rest key cs)) (λ no. rw no (rw no refl)) (cases_Bool (is_below c.0 key))

first_head : (key : List ℕ) (cells : List Entry) (c : Entry) (cs : List Entry) → rest_entries key cells ≡ c ∷ cs → first_at key cells ≡ Some c
first_head key [] c cs e = cc
first_head key (x ∷ xs) c cs e = ⊎_elim (λ yes. let e2 : rest_entries key xs ≡ c ∷ cs = rw yes at e in rw yes (first_head key xs c cs e2)) (λ no. let e2 : x ∷ xs ≡ c ∷ cs = rw no at e in rw no (let same : x ≡ c = cc in ap (λ (y : Entry). Some y) same)) (cases_Bool (is_below x.0 key))

pub first_none : (kind : NodeKind) (bytes key : List ℕ) (cells : List Entry) (after : List ℕ) (at index left : ℕ) → IsPosition kind bytes key cells after at index left → left ≡ 0 → IsLent (first_at key cells) None
first_none kind bytes key cells after at index left s none = rw (first_rest key cells) (is_none (rest_entries key cells) (sym s.left_is ∙ none))
  where
    is_none : (rest : List Entry) → length rest ≡ 0 → IsLent (first_at key rest) None
    is_none [] e = tt
    is_none (x ∷ xs) e = absurd (omega (arith, e))

pub first_some : (kind : NodeKind) (bytes key : List ℕ) (cells : List Entry) (after : List ℕ) (at index left : ℕ) (view : CellView) → IsPosition kind bytes key cells after at index left → (left ≡ 0 → ⊥)
    → IsCellAt kind bytes at view.key.now view.payload.now view.end → IsLent (first_at key cells) (Some view)
first_some kind bytes key cells after at index left view s some is =
    let h = head_of kind bytes at (rest_entries key cells) after view.key.now view.payload.now view.end s.rest (omega (arith, s.left_is, some)) is in
    rw (first_head key cells h.c h.cs h.cells_are) (h.key_is, h.payload_is)

pairs_same : (key first : List ℕ) (c : Entry) (cells : List Entry) (left : ℕ) (k b : List ℕ) (e : Entry) (es : List Entry) → four_bytes left ≡ first → k ≡ e.0 → b ≡ e.1 → c ≡ e → cells ≡ es
    → pair_from key first c cells ≡ pair_from key (four_bytes left) (k, b) es
pairs_same key first c cells left k b e es is_left is_key is_body same tail = rw (is_left, is_key, is_body, same, tail) refl

pub pairs_begin : (bytes key first : List ℕ) (c : Entry) (cells : List Entry) (left : ℕ) (right_key right_body : List ℕ) (at count : ℕ) → IsNode Inner first (c ∷ cells) bytes → four_bytes left ≡ first
    → IsCellAt Inner bytes 8 right_key right_body at → count ≡ length (c ∷ cells) → Pairs bytes key first c cells (zeros_after Inner first (c ∷ cells)) left right_key right_body at 1 count
pairs_begin bytes key first c cells left right_key right_body at count node is_left view is =
    let h = head_of Inner bytes 8 (c ∷ cells) (zeros_after Inner first (c ∷ cells)) right_key right_body at ((begins Inner bytes first (c ∷ cells) node).ahead) (omega arith) view in
    let same : c ≡ h.c = let e = h.cells_are in cc in
    let tail : cells ≡ h.cs = let e = h.cells_are in cc in
    record {
      rest = h.cs;
      here = h.rest;
      total = omega (arith, is, ap (λ (xs : List Entry). length xs) tail);
      pair_is = pairs_same key first c cells left right_key right_body h.c h.cs is_left h.key_is h.payload_is same tail;
    }

-- an edit of a list of cells: what is below the key stays, and what is past it
pub low_rest : (key : List ℕ) (cells : List Entry) → cells ≡ low_entries key cells ++ rest_entries key cells
low_rest key [] = refl
low_rest key (c ∷ cs) = ⊎_elim (λ yes. rw yes (ap (λ (xs : List Entry). c ∷ xs) (low_rest key cs))) (λ no. rw no refl) (cases_Bool (is_below c.0 key))

edited_with : (key value : List ℕ) (cells : List Entry) → with_entry key value cells ≡ low_entries key cells ++ ((key, value) ∷ cells_after key (rest_entries key cells))
edited_with key value [] = refl
edited_with key value (c ∷ cs) = ⊎_elim (λ yes. rw yes (ap (λ (xs : List Entry). c ∷ xs) (edited_with key value cs)))
    (λ no. rw no (⊎_elim (λ less. rw less refl) (λ same. rw same refl) (cases_Bool (is_below key c.0)))) (cases_Bool (is_below c.0 key))

edited_without : (key : List ℕ) (cells : List Entry) → without key cells ≡ low_entries key cells ++ cells_after key (rest_entries key cells)
edited_without key [] = refl
edited_without key (c ∷ cs) = ⊎_elim (λ yes. rw yes (ap (λ (xs : List Entry). c ∷ xs) (edited_without key cs)))
    (λ no. rw no (⊎_elim (λ less. rw less refl) (λ same. rw same refl) (cases_Bool (is_below key c.0)))) (cases_Bool (is_below c.0 key))

pub edited_is : (key : List ℕ) (payload : Option (List ℕ)) (cells : List Entry) → edited key payload cells ≡ low_entries key cells ++ (edited key payload [] ++ cells_after key (rest_entries key cells))
edited_is key (Some value) cells = edited_with key value cells
edited_is key None cells = edited_without key cells

-- the bytes of an edited node, from its slices
pub edited_bytes : (kind : NodeKind) (bytes key : List ℕ) (payload : Option (List ℕ)) (cells : List Entry) (after : List ℕ) (at index left to over end added : ℕ) → AreCellsAt kind bytes (start kind) cells after
    → IsPosition kind bytes key cells after at index left → start kind ≤ at → at ≤ length bytes
    → AreCellsAt kind bytes to (cells_after key (rest_entries key cells)) after → over ≡ length (cells_after key (rest_entries key cells)) → drop end bytes ≡ after → to ≤ end → end ≤ length bytes
    → (a b c d : List ℕ) → a ≡ [] ++ take (at - start kind) (drop (start kind) bytes) → b ≡ a ++ cells_bytes kind (edited key payload []) → c ≡ b ++ take (end - to) (drop to bytes) → added ≡ length (edited key payload [])
    → (index + added + over ≡ length (edited key payload cells)) × (c ≡ cells_bytes kind (edited key payload cells))
edited_bytes kind bytes key payload cells after at index left to over end added all sought begins_at inside tail_at over_is at_end order end_inside a b c d one two three count =
    let low = low_entries key cells in
    let rest = rest_entries key cells in
    let new = edited key payload [] in
    let tail = cells_after key rest in
    let front_spelled : drop (start kind) bytes ≡ cells_bytes kind low ++ drop at bytes =
    all.spelled ∙ (ap (λ (xs : List Entry). cells_bytes kind xs ++ after) (low_rest key cells) ∙ (ap (λ (xs : List ℕ). xs ++ after) (cells_append kind low rest)
    ∙ (append_assoc (cells_bytes kind low) (cells_bytes kind rest) after ∙ ap (λ (xs : List ℕ). cells_bytes kind low ++ xs) (sym sought.rest.spelled)))) in
    let front = slice_is (start kind) at bytes (cells_bytes kind low) front_spelled begins_at inside in
    let back = slice_is to end bytes (cells_bytes kind tail) (tail_at.spelled ∙ ap (λ (xs : List ℕ). cells_bytes kind tail ++ xs) (sym at_end)) order end_inside in
    let is = edited_is key payload cells in
    let spelled : cells_bytes kind (edited key payload cells) ≡ cells_bytes kind low ++ (cells_bytes kind new ++ cells_bytes kind tail) =
    ap (λ (xs : List Entry). cells_bytes kind xs) is ∙ (cells_append kind low (new ++ tail) ∙ ap (λ (xs : List ℕ). cells_bytes kind low ++ xs) (cells_append kind new tail)) in
    let long = ap (λ (xs : List Entry). length xs) is in (
      omega (arith, long, length-append low (new ++ tail), length-append new tail, sought.index_is, count, over_is),
      rw (three, two, one, front, back) (append_assoc (cells_bytes kind low) (cells_bytes kind new) (cells_bytes kind tail)) ∙ sym spelled,
    )

-- the value at a key is that of the least entry from the key on, if that is its key
module _ (key : List ℕ) where
  pub value_none : (cells : List Entry) → IsLent (first_at key cells) None → value_for key cells ≡ None
  value_none [] e = refl
  value_none (c ∷ cs) e = ⊎_elim (λ yes. let e2 : IsLent (first_at key cs) None = rw yes at e in rw yes (value_none cs e2)) (λ no. absurd (rw no at e)) (cases_Bool (is_below c.0 key))

  pub value_past : (cells : List Entry) (view : CellView) → IsLent (first_at key cells) (Some view) → true ≡ is_below key view.key.now → value_for key cells ≡ None
  value_past [] view e not_less = absurd e
  value_past (c ∷ cs) view e not_less = ⊎_elim (λ yes. let e2 : IsLent (first_at key cs) (Some view) = rw yes at e in rw yes (value_past cs view e2 not_less))
      (λ no. let e2 : (view.key.now ≡ c.0) × (view.payload.now ≡ c.1) = rw no at e in
      let one : is_below key c.0 ≡ true = sym (ap (λ (k : List ℕ). is_below key k) e2.0) ∙ sym not_less in
      let is : value_for key (c ∷ cs) ≡ None = rw no (rw one refl) in is) (cases_Bool (is_below c.0 key))

  pub value_here : (cells : List Entry) (view : CellView) → IsLent (first_at key cells) (Some view) → false ≡ is_below key view.key.now → Some view.payload.now ≡ value_for key cells
  value_here [] view e not_less = absurd e
  value_here (c ∷ cs) view e not_less = ⊎_elim (λ yes. let e2 : IsLent (first_at key cs) (Some view) = rw yes at e in rw yes (value_here cs view e2 not_less))
      (λ no. let e2 : (view.key.now ≡ c.0) × (view.payload.now ≡ c.1) = rw no at e in
      let one : is_below key c.0 ≡ false = sym (ap (λ (k : List ℕ). is_below key k) e2.0) ∙ sym not_less in
      let is : Some c.1 ≡ value_for key (c ∷ cs) = rw no (rw one refl) in ap (λ (b : List ℕ). Some b) e2.1 ∙ is) (cases_Bool (is_below c.0 key))
