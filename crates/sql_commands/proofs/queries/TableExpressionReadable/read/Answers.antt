use Rattle.std.proofs.Common.{refl}
use Rattle.sql_commands.specs.Commands.{a_source}
use Rattle.sql_commands.proofs.Stepwise.{begin, next, done, failed}
use Rattle.sql_commands.proofs.queries.TableExpressionReadable.read.Goals as goal

pub returns-in_err-tables : goal.returns-in_err-tables
returns-in_err-tables c = failed a_source c.from_residual.result refl (next (next (next (next begin c.then-read.ensures) c.after_word-read.ensures) c.then-read-2.ensures) c.in_err-tables.ensures) c.from_residual.ensures.1

pub returns : goal.returns
returns c = done refl (next (next (next (next begin c.then-read.ensures) c.after_word-read.ensures) c.then-read-2.ensures) c.in_ok-tables.ensures)
