-- The row that was read is the one that the bytes spell.
use Rattle.std.proofs.Common.{◌≡◌, ℕ, ◌<◌, ◌≤◌, false, nat_eq, List, map, length, refl, sym, ap, subst, ◌∙◌, arith, slice_get}
use Rattle.std.specs.Prelude.{Option}
use Rattle.std.specs.List.{list_any, AllByRecursion}
use Rattle.std.specs.declared.cmp.Ordering.{Ordering}
use Rattle.std.specs.declared.cmp.Ordering.TheVariants.{Less, Equal, Greater}
use Rattle.std.specs.Ordering.{nat_cmp, MatchOrdering}
use Rattle.std.proofs.lemmas.Cmp.{ranked}
use Rattle.std.proofs.lemmas.Option.{slice_get_past}
use Rattle.sql_types.specs.declared.value.ValueRef.{ValueRef}
use Rattle.sql_ast.specs.declared.columns.Column.{Column}
use Rattle.sql_ast.specs.Layout.{Layout, IsLayout}
use Rattle.sql_types.specs.Row.{Row, value_at}
use Rattle.sql_ast.specs.Fits.{FitsColumnIfAny}
use Rattle.row_codec.specs.Rows.{key_bytes, Spells}
use Rattle.row_codec.specs.InPlace.{cell, row_of, IsKeySpelled, AreOthersSpelled, SameKey}
use Rattle.row_codec.proofs.Layouts.{all_with, key_indices_within}
use Rattle.row_codec.proofs.Reading.{each_cell, same_map, value_of_row, row_long}
use Rattle.row_codec.proofs.Lengths.{row_key_long, row_value_long}

-- each value fits its column
each_fits : (columns : List Column) (key : List ℕ) (cells : List ValueRef) → length columns ≤ length cells
    → AllByRecursion (λ p. FitsColumnIfAny (slice_get columns p) (cell cells p)) key
    → ((p : ℕ) → p < length columns → list_any (nat_eq p) key ≡ false → FitsColumnIfAny (slice_get columns p) (cell cells p))
    → (index : ℕ) → FitsColumnIfAny (slice_get columns index) (value_at (row_of (length columns) cells) index)
each_fits columns key cells wide of_key of_others index = go (nat_cmp index (length columns)) (ranked index (length columns) _ refl)
  where
    after : length columns ≤ index → FitsColumnIfAny (slice_get columns index) (value_at (row_of (length columns) cells) index)
    after past = subst (λ (o : Option Column). FitsColumnIfAny o (value_at (row_of (length columns) cells) index)) (sym (slice_get_past columns index past)) tt

    go : (o : Ordering) → MatchOrdering o (index < length columns) (index ≡ length columns) (length columns < index) → FitsColumnIfAny (slice_get columns index) (value_at (row_of (length columns) cells) index)
    go Less low =
        subst (FitsColumnIfAny (slice_get columns index)) (sym (value_of_row (length columns) cells index low (omega arith)))
        (each_cell (λ p v. FitsColumnIfAny (slice_get columns p) v) key cells index of_key (of_others index low))
    go Equal same = after (omega arith)
    go Greater past = after (omega arith)

whole_row : (layout : Layout) (key value : List ℕ) (old cells : List ValueRef) → IsLayout layout → length key ≤ 200 → length value ≤ 1200
    → IsKeySpelled layout key old → SameKey layout.key old cells → AreOthersSpelled layout value cells → Spells layout key value (row_of (length layout.columns) cells)
whole_row layout key value old cells is key_short value_short read kept others =
    let row : Row = row_of (length layout.columns) cells in
    let within = key_indices_within layout.columns layout.key is.key_not_null in
    let same : map (value_at row) layout.key ≡ map (cell old) layout.key =
    same_map (value_at row) (cell old) layout.key
    (all_with (λ p. p < length layout.columns) (λ p. cell cells p ≡ cell old p) (λ p. value_at row p ≡ cell old p) layout.key
    (λ p low e. let wide = others.wide in value_of_row (length layout.columns) cells p low (omega arith) ∙ e) within kept) in
    let of_key : AllByRecursion (λ p. FitsColumnIfAny (slice_get layout.columns p) (cell cells p)) layout.key =
    all_with (λ p. FitsColumnIfAny (slice_get layout.columns p) (cell old p)) (λ p. cell cells p ≡ cell old p) (λ p. FitsColumnIfAny (slice_get layout.columns p) (cell cells p)) layout.key
    (λ p fits e. subst (FitsColumnIfAny (slice_get layout.columns p)) (sym e) fits) read.fits kept in
    let key_spelled : key ≡ key_bytes (map (value_at row) layout.key) = read.spelled ∙ ap key_bytes (sym same) in
    let key_long = ap (λ (zs : List ℕ). length zs) key_spelled in
    let value_long = ap (λ (zs : List ℕ). length zs) others.spelled in
    record {
      fits = record {
        columns = record { width = row_long (length layout.columns) cells others.wide; each = each_fits layout.columns layout.key cells others.wide of_key others.fits };
        limits = record {
          key = omega (arith, key_long, key_short, row_key_long layout row);
          others = omega (arith, value_long, value_short, row_value_long layout row);
        };
      };
      key_spelled = key_spelled;
      value_spelled = others.spelled;
    }

pub found_row : (layout : Layout) (key value : List ℕ) (old cells : List ValueRef) (width : ℕ) → width ≡ length layout.columns → IsLayout layout → length key ≤ 200 → length value ≤ 1200
    → IsKeySpelled layout key old → SameKey layout.key old cells → AreOthersSpelled layout value cells → Spells layout key value (row_of width cells)
found_row layout key value old cells width is_width is key_short value_short read kept others =
    subst (λ n. Spells layout key value (row_of n cells)) (sym is_width) (whole_row layout key value old cells is key_short value_short read kept others)

-- what is spelled is no longer than the limits
pub key_within : (layout : Layout) (key value : List ℕ) (row : Row) → Spells layout key value row → length key ≤ 200
key_within layout key value row spells = let long = ap (λ (zs : List ℕ). length zs) spells.key_spelled in let limit = spells.fits.limits.key in omega (arith, long, limit, row_key_long layout row)

pub value_within : (layout : Layout) (key value : List ℕ) (row : Row) → Spells layout key value row → length value ≤ 1200
value_within layout key value row spells = let long = ap (λ (zs : List ℕ). length zs) spells.value_spelled in let limit = spells.fits.limits.others in omega (arith, long, limit, row_value_long layout row)
