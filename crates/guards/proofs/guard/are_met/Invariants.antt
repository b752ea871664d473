use Rattle.std.proofs.Common.{◌≡◌, drop}
use Rattle.expressions.specs.Rows.{names_of}
use Rattle.guards.specs.Truths.{is_met}
use Rattle.guards.specs.Guards.{guard_value}
use Rattle.guards.proofs.guard.are_met.Given as goal

abbrev pub invariant-loop-formula : goal.invariant-loop-formula
invariant-loop-formula g l =
    is_met (guard_value (names_of l.users) l.formulas (g.R.RowView.cell l.row))
    ≡ is_met (guard_value (names_of l.users) (drop l.formula-index l.formulas) (g.R.RowView.cell l.row))
