use Rattle.std.proofs.Common.{refl}
use Rattle.sql_commands.specs.Commands.{create_role}
use Rattle.sql_commands.proofs.Stepwise.{begin, next, token, done, failed}
use Rattle.sql_commands.proofs.roles.create_role.Goals as goal

pub returns-in_err-role : goal.returns-in_err-role
returns-in_err-role c = failed create_role c.from_residual.result refl (next (next (next (token (token begin c.token-read.ensures) c.token-read-2.ensures) c.then-read.ensures) c.skip-read.ensures) c.in_err-role.ensures) c.from_residual.ensures.1

pub returns : goal.returns
returns c = done refl (next (next (next (token (token begin c.token-read.ensures) c.token-read-2.ensures) c.then-read.ensures) c.skip-read.ensures) c.in_ok-role.ensures)
