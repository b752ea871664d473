-- The bytes and the sizes of a row, column by column.
use Rattle.std.proofs.Common.{◌≡◌, ℕ, zero, suc, ◌+◌, ◌-◌, ◌^◌, ◌<◌, ◌≤◌, min, Bool, true, false, nat_eq, List, [], ◌∷◌, ◌++◌, map, length, take, get_or, refl, sym, ap, ◌∙◌, arith, append_assoc, if◌then◌else◌}
use Rattle.std.specs.List.{list_any}
use Rattle.std.proofs.lemmas.List.{take_more, length-take-le}
use Rattle.sql_types.specs.declared.value.Value.{Value}
use Rattle.row_codec.specs.Cells.{key_cell, value_cell, BeginsWith}
use Rattle.sql_types.specs.Row.{Row}
use Rattle.sql_ast.specs.Rows.{record_size, record_size_from, value_cell_size}
use Rattle.row_codec.specs.Rows.{key_bytes, value_bytes}

pub append_none : (xs : List ℕ) → xs ++ [] ≡ xs
append_none [] = refl
append_none (x ∷ xs) = ap (λ (zs : List ℕ). x ∷ zs) (append_none xs)

-- ---- the key

key_bytes-push : (vs : List Value) (v : Value) → key_bytes (vs ++ v ∷ []) ≡ key_bytes vs ++ key_cell v
key_bytes-push [] v = append_none (key_cell v)
key_bytes-push (x ∷ xs) v = rw (key_bytes-push xs v) (sym (append_assoc (key_cell x) (key_bytes xs) (key_cell v)))

pub map-push : {A B : Type 0} (f : A → B) (xs : List A) (x : A) → map f (xs ++ x ∷ []) ≡ map f xs ++ f x ∷ []
map-push f [] x = refl
map-push f (y ∷ ys) x = ap (λ (zs : List _). f y ∷ zs) (map-push f ys x)

-- one more index of the key
pub key_bytes-more : (f : ℕ → Value) (key : List ℕ) (i d : ℕ) → i < length key
    → key_bytes (map f (take (i + 1) key)) ≡ key_bytes (map f (take i key)) ++ key_cell (f (get_or key i d))
key_bytes-more f key i d inside =
    ap (λ (ps : List ℕ). key_bytes (map f ps)) (take_more key i d inside)
    ∙ ap key_bytes (map-push f (take i key) (get_or key i d))
    ∙ key_bytes-push (map f (take i key)) (f (get_or key i d))

-- ---- the other columns

pub value_bytes-push : (key : List ℕ) (s n : ℕ) (row : Row) (v : Value) → n ≡ s + length row
    → value_bytes key s (row ++ v ∷ []) ≡ value_bytes key s row ++ (if list_any (nat_eq n) key then [] else value_cell v)
value_bytes-push key s n [] v e = let same : n ≡ s = omega arith in rw same (append_none (if list_any (nat_eq s) key then [] else value_cell v))
value_bytes-push key s n (w ∷ row) v e =
    ap (λ (zs : List ℕ). (if list_any (nat_eq s) key then [] else value_cell w) ++ zs) (value_bytes-push key (s + 1) n row v (omega arith))
    ∙ sym (append_assoc (if list_any (nat_eq s) key then [] else value_cell w) (value_bytes key (s + 1) row) (if list_any (nat_eq n) key then [] else value_cell v))

-- one more column
pub value_bytes-more : (key : List ℕ) (row : Row) (i : ℕ) (d : Value) → i < length row
    → value_bytes key 0 (take (i + 1) row) ≡ value_bytes key 0 (take i row) ++ (if list_any (nat_eq i) key then [] else value_cell (get_or row i d))
value_bytes-more key row i d inside =
    let long : length (take i row) ≡ i = length-take-le i row (omega arith) in
    ap (value_bytes key 0) (take_more row i d inside) ∙ value_bytes-push key 0 i (take i row) (get_or row i d) (omega (arith, long))

record_size-at : (key : List ℕ) (s n : ℕ) (row : Row) (i : ℕ) (d : Value) → n ≡ s + i → i < length row → list_any (nat_eq n) key ≡ false
    → value_cell_size (get_or row i d) ≤ record_size_from key s row
record_size-at key s n [] i d e inside other = absurd (omega arith)
record_size-at key s n (v ∷ row) zero d e inside other = let same : s ≡ n = omega arith in rw (same, other) (omega arith)
record_size-at key s n (v ∷ row) (suc i) d e inside other = let rest = record_size-at key (s + 1) n row i d (omega arith) (omega arith) other in omega (arith, rest)

-- a column takes no more bytes than all columns
pub record_size-within : (key : List ℕ) (row : Row) (i : ℕ) (d : Value) → i < length row → list_any (nat_eq i) key ≡ false
    → value_cell_size (get_or row i d) ≤ record_size key row
record_size-within key row i d inside other = record_size-at key 0 i row i d (omega arith) inside other

-- ---- what memory refused leaves

begins : (front more bytes : List ℕ) → BeginsWith bytes (front ++ more) → BeginsWith bytes front
begins [] more bytes h = refl
begins (x ∷ front) more [] h = cc
begins (x ∷ front) more (b ∷ bytes) h = let first : b ≡ x = cc in let rest : take (length (front ++ more)) bytes ≡ front ++ more = cc in rw first (ap (λ (zs : List ℕ). x ∷ zs) (begins front more bytes rest))

-- what begins with more begins with less
pub begins_less : (front more mid bytes : List ℕ) → mid ≡ front ++ more → BeginsWith bytes mid → BeginsWith bytes front
begins_less front more mid bytes e h = begins front more bytes (rw (sym e) h)

pub appended : (old a b c mid new : List ℕ) → mid ≡ old ++ a → new ≡ mid ++ b → c ≡ a ++ b → new ≡ old ++ c
appended old a b c mid new first second whole = second ∙ ap (λ (zs : List ℕ). zs ++ b) first ∙ append_assoc old a b ∙ ap (λ (zs : List ℕ). old ++ zs) (sym whole)

-- at each column what is there grows by its cell, unless it is a key column
pub cells_grow : (key : List ℕ) (row : Row) (i : ℕ) (front out new : List ℕ) (in_key : Bool) (v : Value) → i < length row → v ≡ get_or row i v → in_key ≡ list_any (nat_eq i) key
    → out ≡ front ++ value_bytes key 0 (take i row) → new ≡ (if in_key then out else out ++ value_cell v) → new ≡ front ++ value_bytes key 0 (take (i + 1) row)
cells_grow key row i front out new true v inside at is_key so_far grown =
    let same : value_bytes key 0 (take (i + 1) row) ≡ value_bytes key 0 (take i row) ++ [] =
    value_bytes-more key row i v inside ∙ ap (λ b. value_bytes key 0 (take i row) ++ (if b then [] else value_cell (get_or row i v))) (sym is_key) in
    grown ∙ so_far ∙ ap (λ (zs : List ℕ). front ++ zs) (sym (same ∙ append_none (value_bytes key 0 (take i row))))
cells_grow key row i front out new false v inside at is_key so_far grown =
    appended front _ _ _ out new so_far grown
    (value_bytes-more key row i v inside ∙ ap (λ b. value_bytes key 0 (take i row) ++ (if b then [] else value_cell (get_or row i v))) (sym is_key)
    ∙ ap (λ w. value_bytes key 0 (take i row) ++ value_cell w) (sym at))
