use Rattle.std.proofs.Common.{refl}
use Rattle.sql_commands.specs.Commands.{alter_table}
use Rattle.sql_commands.proofs.Stepwise.{begin, next, token, done, failed}
use Rattle.sql_commands.proofs.tables.alter_table.Goals as goal

pub returns-in_err-table : goal.returns-in_err-table
returns-in_err-table c = failed alter_table c.from_residual.result refl (token (token (token (next (next (token (token begin c.token-read.ensures) c.token-read-2.ensures) c.then-read.ensures) c.then-read-2.ensures) c.token-read-3.ensures) c.token-read-4.ensures) c.in_err-table.ensures) c.from_residual.ensures.1

pub returns : goal.returns
returns c = done refl (token (token (token (next (next (token (token begin c.token-read.ensures) c.token-read-2.ensures) c.then-read.ensures) c.then-read-2.ensures) c.token-read-3.ensures) c.token-read-4.ensures) c.in_ok-table.ensures)
