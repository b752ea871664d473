use Rattle.std.proofs.Common.{◌≡◌, drop}
use Rattle.key_ranges.specs.Infallible.{are_lent_infallible}
use Rattle.key_ranges.proofs.infallible.are_lent_infallible.Given as goal

-- the conditions so far are infallible
abbrev pub invariant-loop-condition : goal.invariant-loop-condition
invariant-loop-condition l = are_lent_infallible l.conditions ≡ are_lent_infallible (drop l.condition-index l.conditions)
