use Rattle.std.proofs.Common.{refl}
use Rattle.sql_commands.specs.Commands.{drop_role}
use Rattle.sql_commands.proofs.Stepwise.{begin, next, token, done, failed}
use Rattle.sql_commands.proofs.roles.drop_role.Goals as goal

pub returns-in_err-role : goal.returns-in_err-role
returns-in_err-role c = failed drop_role c.from_residual.result refl (next (token (token begin c.token-read.ensures) c.token-read-2.ensures) c.in_err-role.ensures) c.from_residual.ensures.1

pub returns : goal.returns
returns c = done refl (next (token (token begin c.token-read.ensures) c.token-read-2.ensures) c.in_ok-role.ensures)
