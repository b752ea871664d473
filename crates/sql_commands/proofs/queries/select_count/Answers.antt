use Rattle.std.proofs.Common.{refl}
use Rattle.sql_commands.specs.Commands.{select_count}
use Rattle.sql_commands.proofs.Stepwise.{begin, next, token, done, failed}
use Rattle.sql_commands.proofs.queries.select_count.Goals as goal

pub returns-in_err-source : goal.returns-in_err-source
returns-in_err-source c = failed select_count c.from_residual.result refl (next (token (token (token (token (token begin c.token-read.ensures) c.token-read-2.ensures) c.token-read-3.ensures) c.token-read-4.ensures) c.token-read-5.ensures) c.in_err-source.ensures) c.from_residual.ensures.1

pub returns : goal.returns
returns c = done refl (next (token (token (token (token (token begin c.token-read.ensures) c.token-read-2.ensures) c.token-read-3.ensures) c.token-read-4.ensures) c.token-read-5.ensures) c.in_ok-source.ensures)
