use Rattle.sql_commands.proofs.Stepwise.{stands, stands_not}
use Rattle.sql_commands.proofs.steps.token.Goals as goal

pub returns-in_err-end : goal.returns-in_err-end
returns-in_err-end g c = stands_not c.in_ok-values.was c.in_err-end.ensures c.from_residual-in_err-end.ensures.1

pub returns : goal.returns
returns g c = stands c.in_ok-values.was c.in_ok-end.ensures
