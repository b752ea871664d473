-- How long the bytes of a row are.
use Rattle.std.proofs.Common.{◌≡◌, ◌≤◌, ℕ, ◌+◌, Bool, true, false, nat_eq, sum, List, [], ◌∷◌, map, length, refl, ap, ◌∙◌, arith, length-append, if◌then◌else◌}
use Rattle.std.specs.List.{list_any}
use Rattle.std.proofs.lemmas.List.Sums.{sum_by-cons}
use Rattle.sql_types.specs.declared.value.Value.{Value}
use Rattle.sql_types.specs.declared.value.Value.TheVariants.{Null, Int, Text, Bool as Boolean}
use Rattle.sql_ast.specs.Layout.{Layout}
use Rattle.row_codec.specs.Cells.{key_cell, value_cell}
use Rattle.sql_types.specs.Row.{Row, value_at}
use Rattle.sql_ast.specs.Rows.{KeepsLimits, key_size, record_size, record_size_from, key_cell_size, value_cell_size}
use Rattle.row_codec.specs.Rows.{key_bytes, value_bytes, row_key, row_value}

key_cell_long : (v : Value) → length (key_cell v) ≡ key_cell_size v
key_cell_long Null = refl
key_cell_long (Int z) = refl
key_cell_long (Text t) = length-append t (0 ∷ [])
key_cell_long (Boolean false) = refl
key_cell_long (Boolean true) = refl

value_cell_long : (v : Value) → length (value_cell v) ≡ value_cell_size v
value_cell_long Null = refl
value_cell_long (Int z) = refl
value_cell_long (Text t) = omega arith
value_cell_long (Boolean false) = refl
value_cell_long (Boolean true) = refl

key_long : (f : ℕ → Value) (key : List ℕ) → length (key_bytes (map f key)) ≡ sum (map (λ p. key_cell_size (f p)) key)
key_long f [] = refl
key_long f (p ∷ key) = length-append (key_cell (f p)) (key_bytes (map f key)) ∙ let rest = key_long f key in let first = key_cell_long (f p) in omega (arith, rest, first, sum_by-cons (λ n. n) (key_cell_size (f p)) (map (λ q. key_cell_size (f q)) key))

-- a key is as long as its size says
pub row_key_long : (layout : Layout) (row : Row) → length (row_key layout row) ≡ key_size layout.key row
row_key_long layout row = key_long (value_at row) layout.key

others_long : (key : List ℕ) (index : ℕ) (row : Row) → length (value_bytes key index row) ≡ record_size_from key index row
others_long key index [] = refl
others_long key index (v ∷ row) =
    length-append (if list_any (nat_eq index) key then [] else value_cell v) (value_bytes key (index + 1) row) ∙ go (list_any (nat_eq index) key) (others_long key (index + 1) row)
  where
    go : (b : Bool) → length (value_bytes key (index + 1) row) ≡ record_size_from key (index + 1) row
        → length (if b then [] else value_cell v) + length (value_bytes key (index + 1) row) ≡ (if b then 0 else value_cell_size v) + record_size_from key (index + 1) row
    go true rest = ap (λ n. 0 + n) rest
    go false rest = let first = value_cell_long v in omega (arith, rest, first)

-- and so are the other columns
pub row_value_long : (layout : Layout) (row : Row) → length (row_value layout row) ≡ record_size layout.key row
row_value_long layout row = others_long layout.key 0 row

-- the value of a row that keeps to the limits is one that a store takes
pub value_size : (layout : Layout) (row : Row) → KeepsLimits layout row → length (row_value layout row) ≤ 1200
value_size layout row h = let others = h.others in omega (arith, others, row_value_long layout row)
