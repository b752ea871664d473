use Rattle.std.proofs.Common.{◌≡◌, drop}
use Rattle.key_ranges.specs.Infallible.{are_formulas_infallible}
use Rattle.key_ranges.proofs.infallible.are_formulas_infallible.Given as goal

-- the formulas so far are infallible
abbrev pub invariant-loop-formula : goal.invariant-loop-formula
invariant-loop-formula l = are_formulas_infallible l.formulas ≡ are_formulas_infallible (drop l.formula-index l.formulas)
