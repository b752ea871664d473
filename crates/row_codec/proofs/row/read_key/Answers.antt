use Rattle.std.proofs.Common.{◌≡◌, ℕ, ◌+◌, ◌<◌, List, map, drop, length, get_or, nat_eq, arith, sym, subst, ◌∙◌, IsTrue}
use Rattle.std.specs.List.{list_all}
use Rattle.std.specs.Prelude.{Option, slice_get}
use Rattle.std.proofs.lemmas.List.{length-set}
use Rattle.sql_types.specs.Value.{owned}
use Rattle.sql_ast.specs.declared.columns.Column.{Column}
use Rattle.sql_ast.specs.Layout.{all_differ, is_not_null_at}
use Rattle.sql_types.specs.Row.{Row, value_at}
use Rattle.sql_ast.specs.Fits.{FitsColumnIfAny, FitsColumns}
use Rattle.row_codec.specs.Rows.{key_bytes, row_key}
use Rattle.row_codec.proofs.Layouts.{indices_before, key_column_not_null, key_index_within, fits_of_type, of_type_fits}
use Rattle.row_codec.proofs.Reading.{key_grows, cells_more, key_ahead}
use Rattle.row_codec.proofs.row.read_key.Goals as goal

pub offset_bounds-cells-index : goal.offset_bounds-cells-index
offset_bounds-cells-index c =
    let columns : List Column = c.args.columns.now.columns in
    let key : List ℕ = c.key-index-items.result.now in
    let layout = c.key-index-items.ensures.layout in
    let marked : IsTrue (list_all (is_not_null_at columns) key) = subst (λ (ks : List ℕ). IsTrue (list_all (is_not_null_at columns) ks)) (sym c.key-index-items.ensures.key) layout.key_not_null in
    omega (arith, key_index_within columns key c.loop-index.index-index 0 marked c.loop-index-test.true, layout.few_columns)

pub bounds-cells-index : goal.bounds-cells-index
bounds-cells-index c =
    let columns : List Column = c.args.columns.now.columns in
    let key : List ℕ = c.key-index-items.result.now in
    let layout = c.key-index-items.ensures.layout in
    let marked : IsTrue (list_all (is_not_null_at columns) key) = subst (λ (ks : List ℕ). IsTrue (list_all (is_not_null_at columns) ks)) (sym c.key-index-items.ensures.key) layout.key_not_null in
    omega (arith, key_index_within columns key c.loop-index.index-index 0 marked c.loop-index-test.true, layout.few_columns)

pub loop-index-preserved : goal.loop-index-preserved
loop-index-preserved c =
    let columns : List Column = c.args.columns.now.columns in
    let key : List ℕ = c.key-index-items.result.now in
    let i : ℕ = c.loop-index.index-index in
    let index : ℕ = get_or key i 0 in
    let column : Column = c.in_ok-column.column.now in
    let inside : i < length key = c.loop-index-test.true in
    let state = c.loop-index.invariant in
    let layout = c.key-index-items.ensures.layout in
    let marked : IsTrue (list_all (is_not_null_at columns) key) = subst (λ (ks : List ℕ). IsTrue (list_all (is_not_null_at columns) ks)) (sym c.key-index-items.ensures.key) layout.key_not_null in
    let differ : IsTrue (all_differ nat_eq key) = subst (λ (ks : List ℕ). IsTrue (all_differ nat_eq ks)) (sym c.key-index-items.ensures.key) layout.key_differs in
    let others = indices_before key i 0 differ inside in
    let room : index < length c.loop-index.cells.values = omega (arith, key_index_within columns key i 0 marked inside, layout.few_columns, state.all_cells) in
    let not_null = key_column_not_null columns key i 0 column marked inside c.in_ok-column.ensures in
    let fits_here : FitsColumnIfAny (slice_get columns index) (owned c.in_ok-value.value) =
    subst (λ (o : Option Column). FitsColumnIfAny o (owned c.in_ok-value.value)) c.in_ok-column.ensures (fits_of_type column (owned c.in_ok-value.value) c.in_ok-value.ensures.found.0) in
    let next : (row : Row) → FitsColumns columns row → c.args.key.now ≡ row_key c.args.columns.now row
    → (owned c.in_ok-value.value ≡ value_at row index) × (c.in_ok-value.after.now ≡ key_bytes (map (value_at row) (drop (i + 1) key))) =
    λ row fits spelled. c.in_ok-value.ensures.only (value_at row index) (key_bytes (map (value_at row) (drop (i + 1) key)))
    (of_type_fits column (value_at row index) not_null (subst (λ (o : Option Column). FitsColumnIfAny o (value_at row index)) (sym c.in_ok-column.ensures) (fits.each index)))
    (state.ahead row fits spelled ∙ key_ahead (value_at row) key i 0 inside) in
    record {
      all_cells = length-set c.loop-index.cells.values index c.in_ok-value.value ∙ state.all_cells;
      spelled = key_grows key c.args.key.now c.loop-index.rest.now c.in_ok-value.after.now c.loop-index.cells.values i 0 c.in_ok-value.value inside room others state.spelled c.in_ok-value.ensures.found.1;
      fits = cells_more (λ p v. FitsColumnIfAny (slice_get columns p) v) key c.loop-index.cells.values i 0 c.in_ok-value.value inside room others state.fits fits_here;
      ahead = λ row fits spelled. (next row fits spelled).1;
      read = λ row fits spelled. cells_more (λ p v. v ≡ value_at row p) key c.loop-index.cells.values i 0 c.in_ok-value.value inside room others (state.read row fits spelled) (next row fits spelled).0;
    }
