use Rattle.std.proofs.Common.{refl}
use Rattle.std.proofs.lemmas.Bool.{iff_false}
use Rattle.sql_commands.proofs.Stepwise.{found_here, lost_here, left_out, after_there, after_never}
use Rattle.sql_commands.proofs.policies.using.Goals as goal

pub returns-then-not-has : goal.returns-then-not-has
returns-then-not-has g c = found_here c.in_ok-values.was (left_out (iff_false c.has.ensures.value c.if-not-has.true))

pub returns-in_err-clause : goal.returns-in_err-clause
returns-in_err-clause g c = lost_here c.in_ok-values.was (after_never refl (c.has.ensures.value.0 c.if-not-has.false) c.in_err-clause.ensures) c.from_residual-in_err-clause.ensures.1

pub returns : goal.returns
returns g c = found_here c.in_ok-values.was (after_there refl (c.has.ensures.value.0 c.if-not-has.false) c.in_ok-clause.ensures)
