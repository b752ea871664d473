use Rattle.std.proofs.Common.{refl}
use Rattle.sql_commands.specs.Commands.{insert}
use Rattle.sql_commands.proofs.Stepwise.{begin, next, token, done, failed}
use Rattle.sql_commands.proofs.rows.insert.Goals as goal

pub returns-in_err-table : goal.returns-in_err-table
returns-in_err-table c = failed insert c.from_residual.result refl (next (token (next (next (token (token begin c.token-read.ensures) c.token-read-2.ensures) c.then-read.ensures) c.then-read-2.ensures) c.token-read-3.ensures) c.in_err-table.ensures) c.from_residual.ensures.1

pub returns : goal.returns
returns c = done refl (next (token (next (next (token (token begin c.token-read.ensures) c.token-read-2.ensures) c.then-read.ensures) c.then-read-2.ensures) c.token-read-3.ensures) c.in_ok-table.ensures)
