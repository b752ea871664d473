use Rattle.std.proofs.Common.{◌≡◌, drop, map}
use Rattle.expressions.specs.Rows.{names_of, value_on}
use Rattle.guards.specs.Truths.{and_all}
use Rattle.guards.proofs.conditions.are_all_met.Given as goal

abbrev pub invariant-loop-condition : goal.invariant-loop-condition
invariant-loop-condition g l =
    and_all l.fn.first (map (value_on (g.R.RowView.cell l.row) (names_of l.users)) l.conditions)
    ≡ and_all l.truth (map (value_on (g.R.RowView.cell l.row) (names_of l.users)) (drop l.condition-index l.conditions))
