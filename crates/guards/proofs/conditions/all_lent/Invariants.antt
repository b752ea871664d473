use Rattle.std.proofs.Common.{◌≡◌, drop, map}
use Rattle.expressions.specs.Rows.{names_of, value_on}
use Rattle.guards.specs.Truths.{and_all}
use Rattle.guards.proofs.conditions.all_lent.Given as goal

abbrev pub invariant-loop-condition : goal.invariant-loop-condition
invariant-loop-condition g l =
    and_all l.fn.first (map (λ c. value_on (g.R.RowView.cell l.row) (names_of l.users) c.now) l.conditions)
    ≡ and_all l.truth (map (λ c. value_on (g.R.RowView.cell l.row) (names_of l.users) c.now) (drop l.condition-index l.conditions))
