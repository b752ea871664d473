use Rattle.sql_commands.proofs.Stepwise.{found_here}
use Rattle.sql_commands.proofs.steps.skip.Goals as goal

pub returns : goal.returns
returns g c = found_here c.in_ok-values.was c.skip.ensures
