use Rattle.std.proofs.Common.{◌≡◌, ℕ, ◌<◌, false, nat_eq, drop, length, ◌++◌, slice_get}
use Rattle.std.specs.List.{list_any}
use Rattle.sql_types.specs.Row.{Row, value_at}
use Rattle.sql_ast.specs.Fits.{FitsColumnIfAny, FitsColumns}
use Rattle.row_codec.specs.Rows.{value_bytes, row_value}
use Rattle.row_codec.specs.InPlace.{cell, row_of, SameKey}
use Rattle.row_codec.proofs.row.read_others.Given as goal

-- the cells of the columns so far spell what was read and fit, and those of the key stay; of a row whose other columns these are, they are its values and the rest is ahead
abbrev pub invariant-loop-index : goal.invariant-loop-index
invariant-loop-index l = record {
  all_cells : length l.cells.values ≡ 16;
  spelled : l.bytes ≡ value_bytes l.key 0 (row_of l.index l.cells.values) ++ l.unread;
  fits : (q : ℕ) → q < l.index → list_any (nat_eq q) l.key ≡ false → FitsColumnIfAny (slice_get l.columns.columns q) (cell l.cells.values q);
  same_key : SameKey l.key l.initial.cells.values l.cells.values;
  ahead : (row : Row) → FitsColumns l.columns.columns row → l.bytes ≡ row_value l.columns row → l.unread ≡ value_bytes l.key l.index (drop l.index row);
  read : (row : Row) → FitsColumns l.columns.columns row → l.bytes ≡ row_value l.columns row → (q : ℕ) → q < l.index → list_any (nat_eq q) l.key ≡ false → cell l.cells.values q ≡ value_at row q;
}
