use Rattle.std.proofs.Common.{refl}
use Rattle.sql_commands.specs.Commands.{grant_role}
use Rattle.sql_commands.proofs.Stepwise.{begin, next, token, done, failed}
use Rattle.sql_commands.proofs.memberships.grant_role.Goals as goal

pub returns-in_err-roles : goal.returns-in_err-roles
returns-in_err-roles c = failed grant_role c.from_residual.result refl (next (next (token (next (token begin c.token-read.ensures) c.then-read.ensures) c.token-read-2.ensures) c.then-read-2.ensures) c.in_err-roles.ensures) c.from_residual.ensures.1

pub returns : goal.returns
returns c = done refl (next (next (token (next (token begin c.token-read.ensures) c.then-read.ensures) c.token-read-2.ensures) c.then-read-2.ensures) c.in_ok-roles.ensures)
