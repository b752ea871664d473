use Rattle.std.proofs.Common.{◌≡◌, map}
use Rattle.std.specs.List.{range_with_len}
use Rattle.abstract_database.specs.Changes.{value_beside}
use Rattle.table_rows.proofs.values.replaced.Given as goal

abbrev pub invariant-loop-index : goal.invariant-loop-index
invariant-loop-index g l = l.new ≡ map (λ i. value_beside i l.columns l.values (g.R.RowView.cell l.row 0 i)) (range_with_len 0 l.index)
