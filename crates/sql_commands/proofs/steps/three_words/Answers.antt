use Rattle.sql_commands.proofs.Stepwise.{found_here, lost_here}
use Rattle.sql_commands.proofs.steps.three_words.Goals as goal

pub returns-in_err-stand : goal.returns-in_err-stand
returns-in_err-stand g c = lost_here c.in_ok-values.was c.in_err-stand.ensures c.from_residual-in_err-stand.ensures.1

pub returns : goal.returns
returns g c = found_here c.in_ok-values.was c.in_ok-stand.ensures
