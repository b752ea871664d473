use Rattle.std.proofs.Common.{◌≡◌, ℕ, ◌+◌, ◌<◌, true, false, nat_eq, Some, List, drop, length, set, get_or, arith, refl, sym, ap, subst, ◌∙◌}
use Rattle.std.specs.Prelude.{Option, slice_get}
use Rattle.std.specs.List.{list_any, AllByRecursion}
use Rattle.std.proofs.lemmas.Option.{slice_get_read}
use Rattle.std.proofs.lemmas.List.{length-set}
use Rattle.sql_types.specs.declared.value.ValueRef.{ValueRef}
use Rattle.sql_types.specs.Value.{owned}
use Rattle.sql_ast.specs.declared.columns.Column.{Column}
use Rattle.sql_ast.specs.Fits.{FitsColumn, FitsColumnIfAny, FitsColumns}
use Rattle.sql_types.specs.Row.{Row, value_at}
use Rattle.row_codec.specs.Rows.{value_bytes, row_value}
use Rattle.row_codec.specs.InPlace.{cell, SameKey}
use Rattle.row_codec.proofs.Layouts.{all_with, none_among}
use Rattle.row_codec.proofs.Reading.{others_grow, others_pass, each_more, each_pass, each_cell, cells_beside, ahead_in_key, ahead_other, same_row}
use Rattle.row_codec.proofs.row.read_others.Goals as goal

column_there : (columns items : List Column) (i : ℕ) (column : Column) → items ≡ columns → i < length items → column ≡ get_or items i column → slice_get columns i ≡ Some column
column_there columns items i column same inside at = ap (λ (cs : List Column). slice_get cs i) (sym same) ∙ slice_get_read items (length items) i column refl inside at

-- the value that a row has at a column which is there
value_fits : (columns : List Column) (row : Row) (i : ℕ) (column : Column) → FitsColumns columns row → slice_get columns i ≡ Some column → FitsColumn column (value_at row i)
value_fits columns row i column fits there = subst (λ (o : Option Column). FitsColumnIfAny o (value_at row i)) there (fits.each i)

inside_row : (columns items : List Column) (row : Row) (i : ℕ) → FitsColumns columns row → items ≡ columns → i < length items → i < length row
inside_row columns items row i fits same inside = let long = ap length same in let width = fits.width in omega (arith, long, width)

same_key : (key : List ℕ) (old cells : List ValueRef) (j : ℕ) (v : ValueRef) → list_any (nat_eq j) key ≡ false → SameKey key old cells → SameKey key old (set cells j v)
same_key key old cells j v other same =
    all_with (λ p. cell (set cells j v) p ≡ cell cells p) (λ p. cell cells p ≡ cell old p) (λ p. cell (set cells j v) p ≡ cell old p) key (λ p e f. e ∙ f) (cells_beside cells j v key (none_among j key other)) same

pub loop-index-preserved-then-is_in_key : goal.loop-index-preserved-then-is_in_key
loop-index-preserved-then-is_in_key c =
    let columns : List Column = c.args.columns.now.columns in
    let key : List ℕ = c.key-key.result.now in
    let j : ℕ = c.loop-index.index in
    let state = c.loop-index.invariant in
    let layout = c.as_slice-column-items.ensures.layout in
    let width = ap (λ (cs : List Column). length cs) c.as_slice-column-items.ensures.columns in
    let in_key : list_any (nat_eq j) key ≡ true = sym c.is_in_key.ensures ∙ c.if-is_in_key.true in
    let inside : j < length c.loop-index.cells.values = omega (arith, c.loop-index-test.true, width, layout.few_columns, state.all_cells) in
    record {
      all_cells = state.all_cells;
      spelled = others_pass key c.args.bytes.now c.loop-index.unread.now c.loop-index.cells.values j inside in_key state.spelled;
      fits = each_pass (λ q v. FitsColumnIfAny (slice_get columns q) v) key c.loop-index.cells.values j in_key state.fits;
      same_key = state.same_key;
      ahead = λ row fits spelled. state.ahead row fits spelled ∙ ahead_in_key key row j (inside_row columns _ row j fits c.as_slice-column-items.ensures.columns c.loop-index-test.true) in_key;
      read = λ row fits spelled. each_pass (λ q v. v ≡ value_at row q) key c.loop-index.cells.values j in_key (state.read row fits spelled);
    }

pub returns-in_err-value-clause-only : goal.returns-in_err-value-clause-only
returns-in_err-value-clause-only c row fits has_key spelled =
    let columns : List Column = c.args.columns.now.columns in
    let key : List ℕ = c.key-key.result.now in
    let j : ℕ = c.loop-index.index in
    let other : list_any (nat_eq j) key ≡ false = sym c.is_in_key.ensures ∙ c.if-is_in_key.false in
    let there = column_there columns _ j c.column-item.result c.as_slice-column-items.ensures.columns c.loop-index-test.true c.column-item.is in
    absurd (c.in_err-value.ensures.only (value_at row j) (value_bytes key (j + 1) (drop (j + 1) row)) (value_fits columns row j c.column-item.result fits there)
    (c.loop-index.invariant.ahead row fits spelled ∙ ahead_other key row j (inside_row columns _ row j fits c.as_slice-column-items.ensures.columns c.loop-index-test.true) other))

pub loop-index-preserved : goal.loop-index-preserved
loop-index-preserved c =
    let columns : List Column = c.args.columns.now.columns in
    let key : List ℕ = c.key-key.result.now in
    let j : ℕ = c.loop-index.index in
    let v : ValueRef = c.in_ok-value.value in
    let state = c.loop-index.invariant in
    let layout = c.as_slice-column-items.ensures.layout in
    let width = ap (λ (cs : List Column). length cs) c.as_slice-column-items.ensures.columns in
    let other : list_any (nat_eq j) key ≡ false = sym c.is_in_key.ensures ∙ c.if-is_in_key.false in
    let inside : j < length c.loop-index.cells.values = omega (arith, c.loop-index-test.true, width, layout.few_columns, state.all_cells) in
    let there = column_there columns _ j c.column-item.result c.as_slice-column-items.ensures.columns c.loop-index-test.true c.column-item.is in
    let fits_here : FitsColumnIfAny (slice_get columns j) (owned v) = subst (λ (o : Option Column). FitsColumnIfAny o (owned v)) (sym there) c.in_ok-value.ensures.found.0 in
    let next : (row : Row) → FitsColumns columns row → c.args.bytes.now ≡ row_value c.args.columns.now row
    → (owned v ≡ value_at row j) × (c.in_ok-value.after.now ≡ value_bytes key (j + 1) (drop (j + 1) row)) =
    λ row fits spelled. c.in_ok-value.ensures.only (value_at row j) (value_bytes key (j + 1) (drop (j + 1) row)) (value_fits columns row j c.column-item.result fits there)
    (state.ahead row fits spelled ∙ ahead_other key row j (inside_row columns _ row j fits c.as_slice-column-items.ensures.columns c.loop-index-test.true) other) in
    record {
      all_cells = length-set c.loop-index.cells.values j v ∙ state.all_cells;
      spelled = others_grow key c.args.bytes.now c.loop-index.unread.now c.in_ok-value.after.now c.loop-index.cells.values j v inside other state.spelled c.in_ok-value.ensures.found.1;
      fits = each_more (λ q w. FitsColumnIfAny (slice_get columns q) w) key c.loop-index.cells.values j v inside state.fits fits_here;
      same_key = same_key key c.args.cells.now.values c.loop-index.cells.values j v other state.same_key;
      ahead = λ row fits spelled. (next row fits spelled).1;
      read = λ row fits spelled. each_more (λ q w. w ≡ value_at row q) key c.loop-index.cells.values j v inside (state.read row fits spelled) (next row fits spelled).0;
    }

pub returns-clause-only : goal.returns-clause-only
returns-clause-only c row fits has_key spelled =
    let key : List ℕ = c.key-key.result.now in
    let state = c.loop-index.invariant in
    let layout = c.as_slice-column-items.ensures.layout in
    let width = ap (λ (cs : List Column). length cs) c.as_slice-column-items.ensures.columns in
    let of_row : AllByRecursion (λ p. cell c.args.cells.now.values p ≡ value_at row p) key = subst (λ (ks : List ℕ). AllByRecursion (λ p. cell c.args.cells.now.values p ≡ value_at row p) ks) (sym c.key-key.ensures.key) has_key in
    let of_key : AllByRecursion (λ p. cell c.loop-index.cells.values p ≡ value_at row p) key =
    all_with (λ p. cell c.loop-index.cells.values p ≡ cell c.args.cells.now.values p) (λ p. cell c.args.cells.now.values p ≡ value_at row p) (λ p. cell c.loop-index.cells.values p ≡ value_at row p) key (λ p e f. e ∙ f) state.same_key of_row in
    same_row _ c.loop-index.cells.values row fits.width (omega (arith, layout.few_columns, state.all_cells)) (λ q low.
    each_cell (λ p v. v ≡ value_at row p) key c.loop-index.cells.values q of_key (state.read row fits spelled q (omega (arith, low, width, c.loop-index-test.false))))
