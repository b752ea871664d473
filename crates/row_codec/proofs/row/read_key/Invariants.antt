use Rattle.std.proofs.Common.{◌≡◌, map, take, drop, length, ◌++◌, slice_get}
use Rattle.std.specs.List.{AllByRecursion}
use Rattle.sql_types.specs.Row.{Row, value_at}
use Rattle.sql_ast.specs.Fits.{FitsColumnIfAny, FitsColumns}
use Rattle.row_codec.specs.Rows.{key_bytes, row_key}
use Rattle.row_codec.specs.InPlace.{cell}
use Rattle.row_codec.proofs.row.read_key.Given as goal

-- the cells of the indices so far spell what was read and fit; of a row whose key this is, they are its values and the rest is ahead
abbrev pub invariant-loop-index : goal.invariant-loop-index
invariant-loop-index l = record {
  all_cells : length l.cells.values ≡ 16;
  spelled : l.key ≡ key_bytes (map (cell l.cells.values) (take l.index-index l.index-items)) ++ l.rest;
  fits : AllByRecursion (λ p. FitsColumnIfAny (slice_get l.columns.columns p) (cell l.cells.values p)) (take l.index-index l.index-items);
  ahead : (row : Row) → FitsColumns l.columns.columns row → l.key ≡ row_key l.columns row → l.rest ≡ key_bytes (map (value_at row) (drop l.index-index l.index-items));
  read : (row : Row) → FitsColumns l.columns.columns row → l.key ≡ row_key l.columns row → AllByRecursion (λ p. cell l.cells.values p ≡ value_at row p) (take l.index-index l.index-items);
}
