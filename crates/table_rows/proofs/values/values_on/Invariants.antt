use Rattle.std.proofs.Common.{drop}
use Rattle.expressions.specs.Rows.{names_of, value_on}
use Rattle.expressions.proofs.Each.{Left}
use Rattle.table_rows.proofs.values.values_on.Given as goal

abbrev pub invariant-loop-expression : goal.invariant-loop-expression
invariant-loop-expression g l = Left (value_on (g.R.RowView.cell l.row) (names_of l.users)) l.list (drop l.expression-index l.list) l.values
