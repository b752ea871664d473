use Rattle.std.proofs.Common.{refl}
use Rattle.sql_commands.specs.Commands.{enclosed}
use Rattle.sql_commands.proofs.Walks.{fails, read, start, token, phrase, no_token, no_phrase, lost_token, lost_phrase}
use Rattle.sql_commands.proofs.policies.enclosed.Goals as goal

pub returns-in_err-at_clause : goal.returns-in_err-at_clause
returns-in_err-at_clause c = fails (enclosed c.args.source.now) c.from_residual.result refl (lost_token (lost_phrase (no_token start c.in_err-at_clause.ensures))) c.from_residual.ensures.1

pub returns-in_err-clause : goal.returns-in_err-clause
returns-in_err-clause c = fails (enclosed c.args.source.now) c.from_residual-in_err-clause.result refl (lost_token (no_phrase (token start c.in_ok-at_clause.ensures) c.in_err-clause.ensures)) c.from_residual-in_err-clause.ensures.1

pub returns-in_err-end : goal.returns-in_err-end
returns-in_err-end c = fails (enclosed c.args.source.now) c.from_residual-in_err-end.result refl (no_token (phrase (token start c.in_ok-at_clause.ensures) c.in_ok-clause.ensures) c.in_err-end.ensures) c.from_residual-in_err-end.ensures.1

pub returns : goal.returns
returns c = read refl (token (phrase (token start c.in_ok-at_clause.ensures) c.in_ok-clause.ensures) c.in_ok-end.ensures)
