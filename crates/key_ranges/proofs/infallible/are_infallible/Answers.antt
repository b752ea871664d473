use Rattle.std.proofs.Common.{sym, ◌∙◌}
use Rattle.key_ranges.proofs.Infallibility.{all_infallible}
use Rattle.key_ranges.proofs.infallible.are_infallible.Goals as goal

pub returns-clause-never_fail : goal.returns-clause-never_fail
returns-clause-never_fail c infallible = all_infallible c.args.conditions.now (sym c.have_no_arithmetic.ensures ∙ infallible)
