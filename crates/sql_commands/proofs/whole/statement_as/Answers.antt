use Rattle.std.proofs.Common.{rules}
use Rattle.std.proofs.lemmas.Bool.{iff_false}
use Rattle.sql_commands.proofs.Wholes.{read_whole, not_whole, none_whole}
use Rattle.sql_commands.proofs.whole.statement_as.Goals as goal

pub returns-in_err-statement : goal.returns-in_err-statement
returns-in_err-statement c = let m = none_whole {source = c.args.source.now} {command = c.args.command} c.in_err-statement.ensures in search rules

pub returns-then-ends_at : goal.returns-then-ends_at
returns-then-ends_at c = read_whole {source = c.args.source.now} {command = c.args.command} c.in_ok-statement.ensures (c.ends_at.ensures.0 c.if-ends_at.true)

pub returns-else-ends_at : goal.returns-else-ends_at
returns-else-ends_at c = not_whole {source = c.args.source.now} {command = c.args.command} c.in_ok-statement.ensures (iff_false c.ends_at.ensures c.if-ends_at.false)
