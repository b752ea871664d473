use Rattle.std.proofs.Common.{refl}
use Rattle.sql_commands.specs.Commands.{select}
use Rattle.sql_commands.proofs.Stepwise.{begin, next, token, done, failed}
use Rattle.sql_commands.proofs.queries.select.Goals as goal

pub returns-in_err-list : goal.returns-in_err-list
returns-in_err-list c = failed select c.from_residual.result refl (next (next (token begin c.token-read.ensures) c.then-read.ensures) c.in_err-list.ensures) c.from_residual.ensures.1

pub returns : goal.returns
returns c = done refl (next (next (token begin c.token-read.ensures) c.then-read.ensures) c.in_ok-list.ensures)
