-- The rows that a target finds rise by the key of their table.
use Rattle.std.proofs.Common.{◌≡◌, ℕ, List, [], ◌∷◌, map, Option, Some, None, Bor, refl, sym, ap, ◌∙◌, subst, ◌⊎◌, inl, inr}
use Rattle.std.specs.declared.cmp.Ordering.TheVariants.{Less}
use Rattle.sql_types.specs.Row.{Row}
use Rattle.sql_ast.specs.Fits.{FitsTable}
use Rattle.sql_ast.specs.Layout.{Layout, IsLayout}
use Rattle.sql_ast.specs.Rows.{row_cmp}
use Rattle.store.specs.Records.{Records, key_cmp, IsBefore, IsOrdered, has_prefix}
use Rattle.store.proofs.Changes.{ordered_entries_where}
use Rattle.abstract_database.specs.Lists.{Among, Rising}
use Rattle.abstract_database.specs.Whole.{Each}
use Rattle.row_codec.specs.Rows.{row_prefix}
use Rattle.stored_database.specs.RecordFormat.{row_record}
use Rattle.stored_database.proofs.KeyOrder.{row_order}
use Rattle.key_ranges.specs.declared.range.KeyRange.{KeyRange}
use Rattle.key_ranges.specs.Ranges.{is_in}
use Rattle.key_ranges.proofs.Records.{found_range}
use Rattle.table_rows.specs.declared.target.Target.{Target}
use Rattle.table_rows.specs.Ranged.{records_found, FindsRows}

module _ (id : ℕ) (layout : Layout) (is : IsLayout layout) where
  before_each : (row : Row) (rows : List Row) → FitsTable layout row → Each (FitsTable layout) rows → IsBefore (row_record id layout row).0 (map (row_record id layout) rows)
      → (y : Row) → Among y rows → row_cmp layout.key row y ≡ Less
  before_each row [] fits fit before y among = absurd among
  before_each row (other ∷ rows) fits fit before y among = go among (λ later. before_each row rows fits (λ x a. fit x (inr a)) before.1 y later)
    where
      go : (other ≡ y) ⊎ Among y rows → (Among y rows → row_cmp layout.key row y ≡ Less) → row_cmp layout.key row y ≡ Less
      go (inl same) rest = sym (row_order id layout row y is fits (fit y (inl same))) ∙ ap (λ (r : Row). key_cmp (row_record id layout row).0 (row_record id layout r).0) (sym same) ∙ before.0
      go (inr later) rest = rest later

  rows_rise : (rows : List Row) → Each (FitsTable layout) rows → IsOrdered (map (row_record id layout) rows) → Rising (row_cmp layout.key) rows
  rows_rise [] fit ordered = tt
  rows_rise (row ∷ rows) fit ordered =
      let later : Each (FitsTable layout) rows = λ x a. fit x (inr a) in
      (before_each row rows (fit row (inl refl)) later ordered.0, rows_rise rows later ordered.1)

found_ordered : (id : ℕ) (range : Option (Bor KeyRange)) (records : Records) → IsOrdered records → IsOrdered (records_found id range records)
found_ordered id None records o = ordered_entries_where (has_prefix (row_prefix id)) records o
found_ordered id (Some range) records o = subst (λ (es : Records). IsOrdered es) (sym (found_range range.now records o)) (ordered_entries_where (is_in range.now) records o)

pub found_rise : (target : Target) (records : Records) (rows : List Row) → IsLayout target.columns.now → IsOrdered records → FindsRows target records rows → Rising (row_cmp target.columns.now.key) rows
found_rise target records rows is ordered found =
    rows_rise target.id target.columns.now is rows found.fit (subst (λ (es : Records). IsOrdered es) found.are (found_ordered target.id target.range records ordered))
