use Rattle.std.proofs.Common.{refl}
use Rattle.sql_commands.specs.Commands.{reset_role}
use Rattle.sql_commands.proofs.Stepwise.{begin, token, done, failed}
use Rattle.sql_commands.proofs.roles.reset_role.Goals as goal

pub returns-in_err-end : goal.returns-in_err-end
returns-in_err-end c = failed reset_role c.from_residual.result refl (token (token begin c.token-read.ensures) c.in_err-end.ensures) c.from_residual.ensures.1

pub returns : goal.returns
returns c = done refl (token (token begin c.token-read.ensures) c.in_ok-end.ensures)
