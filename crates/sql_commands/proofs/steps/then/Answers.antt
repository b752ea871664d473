use Rattle.sql_commands.proofs.Stepwise.{found_here, lost_here}
use Rattle.sql_commands.proofs.steps.then.Goals as goal

pub returns-in_err-value : goal.returns-in_err-value
returns-in_err-value g c = lost_here c.in_ok-values.was c.in_err-value.ensures c.from_residual-in_err-value.ensures.1

pub returns : goal.returns
returns g c = found_here c.in_ok-values.was c.in_ok-value.ensures
