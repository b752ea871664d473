use Rattle.std.proofs.Common.{refl}
use Rattle.sql_commands.specs.Commands.{some_tables}
use Rattle.sql_commands.proofs.Stepwise.{begin, next, done, failed}
use Rattle.sql_commands.proofs.queries.TablesReadable.read.Goals as goal

pub returns-in_err-first : goal.returns-in_err-first
returns-in_err-first c = failed some_tables c.from_residual.result refl (next (next begin c.then-read.ensures) c.in_err-first.ensures) c.from_residual.ensures.1

pub returns : goal.returns
returns c = rw c.in_ok-clause.ensures (done refl (next (next begin c.then-read.ensures) c.in_ok-first.ensures))
