use Rattle.std.proofs.Common.{refl}
use Rattle.sql_commands.specs.Commands.{a_table}
use Rattle.sql_commands.proofs.Stepwise.{begin, next, done, failed}
use Rattle.sql_commands.proofs.queries.TableReferenceReadable.read.Goals as goal

pub returns-in_err-table : goal.returns-in_err-table
returns-in_err-table c = failed a_table c.from_residual.result refl (next (next begin c.then-read.ensures) c.in_err-table.ensures) c.from_residual.ensures.1

pub returns : goal.returns
returns c = done refl (next (next begin c.then-read.ensures) c.in_ok-table.ensures)
