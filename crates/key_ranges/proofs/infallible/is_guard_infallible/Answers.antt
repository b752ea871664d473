use Rattle.std.proofs.Common.{sym, ap, ◌∙◌}
use Rattle.key_ranges.specs.Infallible.{are_formulas_infallible}
use Rattle.key_ranges.proofs.InfallibleGuards.{infallible_guard}
use Rattle.key_ranges.proofs.infallible.is_guard_infallible.Goals as goal

pub returns-clause-never_fails : goal.returns-clause-never_fails
returns-clause-never_fails c infallible = infallible_guard c.args.guard.now.existing (sym (ap are_formulas_infallible c.as_slice.ensures) ∙ sym c.are_formulas_infallible.ensures ∙ infallible)
