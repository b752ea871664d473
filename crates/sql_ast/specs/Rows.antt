-- The rows of a table: their order by the key, their sizes, and the limits of these.
use Rattle.std.specs.Prelude.{ℕ, ◌+◌, ◌≤◌, Bool, ◌&&◌, nat_eq, nat_le, List, [], ◌∷◌, map, sum, length, if◌then◌else◌}
use Rattle.std.specs.List.{list_any}
use Rattle.std.specs.Ordering.{ordering_then}
use Rattle.std.specs.declared.cmp.Ordering.{Ordering}
use Rattle.std.specs.declared.cmp.Ordering.TheVariants.{Equal}
use Rattle.sql_types.specs.declared.value.Value.{Value}
use Rattle.sql_types.specs.declared.value.Value.TheVariants.{Null, Int, Text, Bool as Boolean}
use Rattle.sql_types.specs.Row.{Row, value_at}
use Rattle.sql_types.specs.Value.{order_of}
use Rattle.sql_ast.specs.Layout.{Layout}

-- rows by the values of the key's columns, the first of which counts most
abbrev pub row_cmp : List ℕ → Row → Row → Ordering
row_cmp [] a b = Equal
row_cmp (index ∷ indices) a b = ordering_then (order_of (value_at a index) (value_at b index)) (row_cmp indices a b)

-- ---- sizes, in bytes

-- in a key a number takes 8 bytes, a text its bytes and a zero byte, a boolean one; a null, which no key holds, none
abbrev pub key_cell_size : Value → ℕ
key_cell_size Null = 0
key_cell_size (Int n) = 8
key_cell_size (Text t) = length t + 1
key_cell_size (Boolean b) = 1

-- after the key a null or a boolean takes one byte, a number 9, a text 3 and its bytes
abbrev pub value_cell_size : Value → ℕ
value_cell_size Null = 1
value_cell_size (Int n) = 9
value_cell_size (Text t) = length t + 3
value_cell_size (Boolean b) = 1

-- the size of a row's key
abbrev pub key_size : List ℕ → Row → ℕ
key_size key row = sum (map (λ index. key_cell_size (value_at row index)) key)

-- the size of a column in a record: none where it is one of the key
abbrev pub size_in_record : List ℕ → ℕ → Value → ℕ
size_in_record key index v = if list_any (nat_eq index) key then 0 else value_cell_size v

-- the size of the columns that are no key columns, the first of which has this index
abbrev pub record_size_from : List ℕ → ℕ → Row → ℕ
record_size_from key index [] = 0
record_size_from key index (v ∷ vs) = size_in_record key index v + record_size_from key (index + 1) vs

-- the size of a row's record: of its columns that are no key columns
abbrev pub record_size : List ℕ → Row → ℕ
record_size key row = record_size_from key 0 row

-- ---- limits, as the crate storage_sizes has them

-- the most bytes of a row's key
abbrev pub max_row_key_length : ℕ
max_row_key_length = 200

-- the most bytes of a record
abbrev pub max_value_length : ℕ
max_value_length = 1200

-- whether a row keeps to the limits
abbrev pub fits_record : Layout → Row → Bool
fits_record layout row = nat_le (key_size layout.key row) max_row_key_length && nat_le (record_size layout.key row) max_value_length

-- a row keeps to the limits
pub record KeepsLimits (layout : Layout) (row : Row) : Type 0 where
  pub key : key_size layout.key row ≤ max_row_key_length
  pub others : record_size layout.key row ≤ max_value_length
