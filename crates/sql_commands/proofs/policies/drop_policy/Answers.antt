use Rattle.std.proofs.Common.{refl}
use Rattle.sql_commands.specs.Commands.{drop_policy}
use Rattle.sql_commands.proofs.Stepwise.{begin, next, token, done, failed}
use Rattle.sql_commands.proofs.policies.drop_policy.Goals as goal

pub returns-in_err-policy : goal.returns-in_err-policy
returns-in_err-policy c = failed drop_policy c.from_residual.result refl (next (token (next (token (token begin c.token-read.ensures) c.token-read-2.ensures) c.then-read.ensures) c.token-read-3.ensures) c.in_err-policy.ensures) c.from_residual.ensures.1

pub returns : goal.returns
returns c = done refl (next (token (next (token (token begin c.token-read.ensures) c.token-read-2.ensures) c.then-read.ensures) c.token-read-3.ensures) c.in_ok-policy.ensures)
