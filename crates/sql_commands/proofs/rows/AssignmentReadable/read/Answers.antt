use Rattle.std.proofs.Common.{refl}
use Rattle.sql_commands.specs.Commands.{an_assignment}
use Rattle.sql_commands.proofs.Stepwise.{begin, next, token, done, failed}
use Rattle.sql_commands.proofs.rows.AssignmentReadable.read.Goals as goal

pub returns-in_err-column : goal.returns-in_err-column
returns-in_err-column c = failed an_assignment c.from_residual.result refl (next (token (next begin c.then-read.ensures) c.token-read.ensures) c.in_err-column.ensures) c.from_residual.ensures.1

pub returns : goal.returns
returns c = done refl (next (token (next begin c.then-read.ensures) c.token-read.ensures) c.in_ok-column.ensures)
