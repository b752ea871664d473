use Rattle.std.proofs.Common.{refl}
use Rattle.sql_commands.specs.Commands.{grant}
use Rattle.sql_commands.proofs.Stepwise.{begin, next, token, done, failed}
use Rattle.sql_commands.proofs.privileges.grant.Goals as goal

pub returns-in_err-privileges : goal.returns-in_err-privileges
returns-in_err-privileges c = failed grant c.from_residual.result refl (next (next (token (next (next (token (next (token begin c.token-read.ensures) c.then-read.ensures) c.token-read-2.ensures) c.skip-read.ensures) c.then-read-2.ensures) c.token-read-3.ensures) c.then-read-3.ensures) c.in_err-privileges.ensures) c.from_residual.ensures.1

pub returns : goal.returns
returns c = done refl (next (next (token (next (next (token (next (token begin c.token-read.ensures) c.then-read.ensures) c.token-read-2.ensures) c.skip-read.ensures) c.then-read-2.ensures) c.token-read-3.ensures) c.then-read-3.ensures) c.in_ok-privileges.ensures)
