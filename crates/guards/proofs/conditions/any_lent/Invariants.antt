use Rattle.std.proofs.Common.{◌≡◌, drop, map}
use Rattle.sql_types.specs.declared.value.Truth.TheVariants as truth
use Rattle.expressions.specs.Rows.{names_of, value_on}
use Rattle.guards.specs.Truths.{or_any}
use Rattle.guards.proofs.conditions.any_lent.Given as goal

abbrev pub invariant-loop-condition : goal.invariant-loop-condition
invariant-loop-condition g l =
    or_any truth.False (map (λ c. value_on (g.R.RowView.cell l.row) (names_of l.users) c.now) l.conditions)
    ≡ or_any l.truth (map (λ c. value_on (g.R.RowView.cell l.row) (names_of l.users) c.now) (drop l.condition-index l.conditions))
