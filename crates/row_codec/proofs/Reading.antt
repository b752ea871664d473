-- Cells that are read one by one, and the row that they make.
use Rattle.std.proofs.Common.{◌≡◌, ◌≢◌, ℕ, zero, suc, ◌+◌, ◌<◌, ◌≤◌, Bool, true, false, nat_eq, List, [], ◌∷◌, ◌++◌, map, length, take, drop, get_or, set, refl, sym, ap, subst, ◌∙◌, arith, append_assoc, if◌then◌else◌}
use Rattle.std.specs.List.{list_any, AllByRecursion}
use Rattle.std.specs.declared.cmp.Ordering.{Ordering}
use Rattle.std.specs.declared.cmp.Ordering.TheVariants.{Less, Equal, Greater}
use Rattle.std.specs.Ordering.{nat_cmp, MatchOrdering}
use Rattle.std.proofs.lemmas.Cmp.{ranked}
use Rattle.std.proofs.lemmas.List.{take_more, take_more_set, ext_get_or, get_or-set_same, get_or-set_other}
use Rattle.std.proofs.Math.Seq.{drop-cons}
use Rattle.sql_types.specs.declared.value.Value.{Value}
use Rattle.sql_types.specs.declared.value.Value.TheVariants.{Null}
use Rattle.sql_types.specs.declared.value.ValueRef.{ValueRef}
use Rattle.sql_types.specs.declared.value.ValueRef.TheVariants as lent
use Rattle.sql_types.specs.Value.{owned}
use Rattle.row_codec.specs.Cells.{key_cell, value_cell}
use Rattle.sql_types.specs.Row.{Row, value_at}
use Rattle.row_codec.specs.Rows.{key_bytes, value_bytes}
use Rattle.row_codec.specs.InPlace.{cell, row_of}
use Rattle.row_codec.proofs.Layouts.{all_at, all_with, all_more}
use Rattle.row_codec.proofs.RecordFormat.{key_bytes-more, value_bytes-push, map-push, append_none}

pub cell_written : (cells : List ValueRef) (p : ℕ) (v : ValueRef) → p < length cells → cell (set cells p v) p ≡ owned v
cell_written cells p v inside = ap owned (get_or-set_same cells p v lent.Null inside)

pub cell_beside : (cells : List ValueRef) (p q : ℕ) (v : ValueRef) → q ≢ p → cell (set cells p v) q ≡ cell cells q
cell_beside cells p q v other = ap owned (get_or-set_other cells p q v lent.Null other)

-- cells at indices that a write leaves alone
pub cells_beside : (cells : List ValueRef) (p : ℕ) (v : ValueRef) (ps : List ℕ) → AllByRecursion (λ q. q ≢ p) ps → AllByRecursion (λ q. cell (set cells p v) q ≡ cell cells q) ps
cells_beside cells p v [] others = tt
cells_beside cells p v (q ∷ ps) others = (cell_beside cells p q v others.0, cells_beside cells p v ps others.1)

pub same_map : (f g : ℕ → Value) (ps : List ℕ) → AllByRecursion (λ p. f p ≡ g p) ps → map f ps ≡ map g ps
same_map f g [] same = refl
same_map f g (p ∷ ps) same = ap (λ v. v ∷ map f ps) same.0 ∙ ap (λ (vs : List Value). g p ∷ vs) (same_map f g ps same.1)

-- a cell is read at an index of a key
pub key_grows : (key : List ℕ) (bytes rest after : List ℕ) (cells : List ValueRef) (i d : ℕ) (v : ValueRef) → i < length key → get_or key i d < length cells
    → AllByRecursion (λ q. q ≢ get_or key i d) (take i key)
    → bytes ≡ key_bytes (map (cell cells) (take i key)) ++ rest → rest ≡ key_cell (owned v) ++ after
    → bytes ≡ key_bytes (map (cell (set cells (get_or key i d) v)) (take (i + 1) key)) ++ after
key_grows key bytes rest after cells i d v inside index others so_far read =
    let p : ℕ = get_or key i d in
    let new : List ValueRef = set cells p v in
    let before : map (cell new) (take i key) ≡ map (cell cells) (take i key) = same_map (cell new) (cell cells) (take i key) (cells_beside cells p v (take i key) others) in
    let grown : key_bytes (map (cell new) (take (i + 1) key)) ≡ key_bytes (map (cell cells) (take i key)) ++ key_cell (owned v) =
    key_bytes-more (cell new) key i d inside ∙ ap (λ (vs : List Value). key_bytes vs ++ key_cell (cell new p)) before
    ∙ ap (λ w. key_bytes (map (cell cells) (take i key)) ++ key_cell w) (cell_written cells p v index) in
    so_far ∙ ap (λ (zs : List ℕ). key_bytes (map (cell cells) (take i key)) ++ zs) read
    ∙ sym (append_assoc (key_bytes (map (cell cells) (take i key))) (key_cell (owned v)) after)
    ∙ ap (λ (zs : List ℕ). zs ++ after) (sym grown)

-- a fact about the cells of the indices so far, and about the one that is written
pub cells_more : (P : ℕ → Value → Type 0) (key : List ℕ) (cells : List ValueRef) (i d : ℕ) (v : ValueRef) → i < length key → get_or key i d < length cells
    → AllByRecursion (λ q. q ≢ get_or key i d) (take i key) → AllByRecursion (λ q. P q (cell cells q)) (take i key) → P (get_or key i d) (owned v)
    → AllByRecursion (λ q. P q (cell (set cells (get_or key i d) v) q)) (take (i + 1) key)
cells_more P key cells i d v inside index others all last =
    let p : ℕ = get_or key i d in
    all_more (λ q. P q (cell (set cells p v) q)) key i d inside
    (all_with (λ q. q ≢ p) (λ q. P q (cell cells q)) (λ q. P q (cell (set cells p v) q)) (take i key) (λ q other fact. subst (P q) (sym (cell_beside cells p q v other)) fact) others all)
    (subst (P p) (sym (cell_written cells p v index)) last)

-- what is ahead in a key
pub key_ahead : (f : ℕ → Value) (key : List ℕ) (i d : ℕ) → i < length key → key_bytes (map f (drop i key)) ≡ key_cell (f (get_or key i d)) ++ key_bytes (map f (drop (i + 1) key))
key_ahead f key i d inside =
    let next : suc i ≡ i + 1 = omega arith in
    ap (λ (ps : List ℕ). key_bytes (map f ps)) (drop-cons key i d inside)
    ∙ ap (λ n. key_cell (f (get_or key i d)) ++ key_bytes (map f (drop n key))) next

-- a cell of the row that cells make
pub value_of_row : (width : ℕ) (cells : List ValueRef) (q : ℕ) → q < width → q < length cells → value_at (row_of width cells) q ≡ cell cells q
value_of_row width [] q narrow inside = absurd (omega arith)
value_of_row zero (v ∷ cells) q narrow inside = absurd (omega arith)
value_of_row (suc width) (v ∷ cells) zero narrow inside = refl
value_of_row (suc width) (v ∷ cells) (suc q) narrow inside = value_of_row width cells q (omega arith) (omega arith)

pub value_there : (row : Row) (q : ℕ) → value_at row q ≡ get_or row q Null
value_there [] q = refl
value_there (v ∷ row) zero = refl
value_there (v ∷ row) (suc q) = value_there row q

-- what is ahead after a key
pub others_ahead : (key : List ℕ) (row : Row) (j : ℕ) → j < length row
    → value_bytes key j (drop j row) ≡ (if list_any (nat_eq j) key then [] else value_cell (value_at row j)) ++ value_bytes key (j + 1) (drop (j + 1) row)
others_ahead key row j inside =
    let next : suc j ≡ j + 1 = omega arith in
    ap (value_bytes key j) (drop-cons row j Null inside)
    ∙ ap (λ v. (if list_any (nat_eq j) key then [] else value_cell v) ++ value_bytes key (j + 1) (drop (suc j) row)) (sym (value_there row j))
    ∙ ap (λ n. (if list_any (nat_eq j) key then [] else value_cell (value_at row j)) ++ value_bytes key (j + 1) (drop n row)) next

pub row_long : (width : ℕ) (cells : List ValueRef) → width ≤ length cells → length (row_of width cells) ≡ width
row_long zero cells wide = refl
row_long (suc width) [] wide = absurd (omega arith)
row_long (suc width) (v ∷ cells) wide = ap suc (row_long width cells (omega arith))

row_more : (width : ℕ) (cells : List ValueRef) → width < length cells → row_of (width + 1) cells ≡ row_of width cells ++ cell cells width ∷ []
row_more width cells inside = ap (map owned) (take_more cells width lent.Null inside) ∙ map-push owned (take width cells) (get_or cells width lent.Null)

row_written : (width : ℕ) (cells : List ValueRef) (v : ValueRef) → width < length cells → row_of (width + 1) (set cells width v) ≡ row_of width cells ++ owned v ∷ []
row_written width cells v inside = ap (map owned) (take_more_set cells width v inside) ∙ map-push owned (take width cells) v

-- a column of the key is passed by
pub others_pass : (key bytes rest : List ℕ) (cells : List ValueRef) (j : ℕ) → j < length cells → list_any (nat_eq j) key ≡ true
    → bytes ≡ value_bytes key 0 (row_of j cells) ++ rest → bytes ≡ value_bytes key 0 (row_of (j + 1) cells) ++ rest
others_pass key bytes rest cells j inside in_key so_far =
    let long : length (row_of j cells) ≡ j = row_long j cells (omega arith) in
    let same : value_bytes key 0 (row_of (j + 1) cells) ≡ value_bytes key 0 (row_of j cells) =
    ap (value_bytes key 0) (row_more j cells inside)
    ∙ value_bytes-push key 0 j (row_of j cells) (cell cells j) (omega (arith, long))
    ∙ ap (λ b. value_bytes key 0 (row_of j cells) ++ (if b then [] else value_cell (cell cells j))) in_key
    ∙ append_none (value_bytes key 0 (row_of j cells)) in
    so_far ∙ ap (λ (zs : List ℕ). zs ++ rest) (sym same)

-- the cell of another column is read
pub others_grow : (key bytes rest after : List ℕ) (cells : List ValueRef) (j : ℕ) (v : ValueRef) → j < length cells → list_any (nat_eq j) key ≡ false
    → bytes ≡ value_bytes key 0 (row_of j cells) ++ rest → rest ≡ value_cell (owned v) ++ after → bytes ≡ value_bytes key 0 (row_of (j + 1) (set cells j v)) ++ after
others_grow key bytes rest after cells j v inside other so_far read =
    let long : length (row_of j cells) ≡ j = row_long j cells (omega arith) in
    let grown : value_bytes key 0 (row_of (j + 1) (set cells j v)) ≡ value_bytes key 0 (row_of j cells) ++ value_cell (owned v) =
    ap (value_bytes key 0) (row_written j cells v inside)
    ∙ value_bytes-push key 0 j (row_of j cells) (owned v) (omega (arith, long))
    ∙ ap (λ b. value_bytes key 0 (row_of j cells) ++ (if b then [] else value_cell (owned v))) other in
    so_far ∙ ap (λ (zs : List ℕ). value_bytes key 0 (row_of j cells) ++ zs) read
    ∙ sym (append_assoc (value_bytes key 0 (row_of j cells)) (value_cell (owned v)) after)
    ∙ ap (λ (zs : List ℕ). zs ++ after) (sym grown)

-- a fact about each cell so far, and about the one that is written
pub each_more : (P : ℕ → Value → Type 0) (key : List ℕ) (cells : List ValueRef) (j : ℕ) (v : ValueRef) → j < length cells
    → ((q : ℕ) → q < j → list_any (nat_eq q) key ≡ false → P q (cell cells q)) → P j (owned v)
    → (q : ℕ) → q < j + 1 → list_any (nat_eq q) key ≡ false → P q (cell (set cells j v) q)
each_more P key cells j v inside so_far last q low other = go (nat_cmp q j) (ranked q j _ refl)
  where
    go : (o : Ordering) → MatchOrdering o (q < j) (q ≡ j) (j < q) → P q (cell (set cells j v) q)
    go Less less = subst (P q) (sym (cell_beside cells j q v (λ same. absurd (omega arith)))) (so_far q less other)
    go Equal same = subst (λ n. P n (cell (set cells j v) n)) (sym same) (subst (P j) (sym (cell_written cells j v inside)) last)
    go Greater more = absurd (omega arith)

-- and where the column is one of the key
pub each_pass : (P : ℕ → Value → Type 0) (key : List ℕ) (cells : List ValueRef) (j : ℕ) → list_any (nat_eq j) key ≡ true
    → ((q : ℕ) → q < j → list_any (nat_eq q) key ≡ false → P q (cell cells q)) → (q : ℕ) → q < j + 1 → list_any (nat_eq q) key ≡ false → P q (cell cells q)
each_pass P key cells j in_key so_far q low other = go (nat_cmp q j) (ranked q j _ refl)
  where
    go : (o : Ordering) → MatchOrdering o (q < j) (q ≡ j) (j < q) → P q (cell cells q)
    go Less less = so_far q less other
    go Equal same = let among : list_any (nat_eq q) key ≡ true = ap (λ n. list_any (nat_eq n) key) same ∙ in_key in cc
    go Greater more = absurd (omega arith)

-- a row whose values the cells are is the row that they make
pub same_row : (width : ℕ) (cells : List ValueRef) (row : Row) → length row ≡ width → width ≤ length cells → ((q : ℕ) → q < width → cell cells q ≡ value_at row q) → row_of width cells ≡ row
same_row width cells row long wide same =
    let total = row_long width cells wide in
    ext_get_or Null (row_of width cells) row (omega (arith, total, long)) (λ q low.
    let narrow : q < width = omega (arith, total) in
    let there : q < length cells = omega arith in
    sym (value_there (row_of width cells) q) ∙ value_of_row width cells q narrow there ∙ same q narrow ∙ value_there row q)

-- what is ahead at a column of the key, and at another
pub ahead_in_key : (key : List ℕ) (row : Row) (j : ℕ) → j < length row → list_any (nat_eq j) key ≡ true → value_bytes key j (drop j row) ≡ value_bytes key (j + 1) (drop (j + 1) row)
ahead_in_key key row j inside in_key = others_ahead key row j inside ∙ ap (λ b. (if b then [] else value_cell (value_at row j)) ++ value_bytes key (j + 1) (drop (j + 1) row)) in_key

pub ahead_other : (key : List ℕ) (row : Row) (j : ℕ) → j < length row → list_any (nat_eq j) key ≡ false
    → value_bytes key j (drop j row) ≡ value_cell (value_at row j) ++ value_bytes key (j + 1) (drop (j + 1) row)
ahead_other key row j inside other = others_ahead key row j inside ∙ ap (λ b. (if b then [] else value_cell (value_at row j)) ++ value_bytes key (j + 1) (drop (j + 1) row)) other

-- a fact about the cells of the key and one about the others is one about each
pub each_cell : (P : ℕ → Value → Type 0) (key : List ℕ) (cells : List ValueRef) (q : ℕ) → AllByRecursion (λ p. P p (cell cells p)) key
    → (list_any (nat_eq q) key ≡ false → P q (cell cells q)) → P q (cell cells q)
each_cell P key cells q of_key of_other = go (list_any (nat_eq q) key) refl
  where
    go : (b : Bool) → b ≡ list_any (nat_eq q) key → P q (cell cells q)
    go true among = all_at (λ p. P p (cell cells p)) q key (sym among) of_key
    go false none = of_other (sym none)
