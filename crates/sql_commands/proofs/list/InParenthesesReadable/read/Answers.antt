use Rattle.sql_grammar.specs.Phrases.{parenthesized}
use Rattle.sql_commands.proofs.Stepwise.{begin, token, next, done, failed}
use Rattle.sql_commands.proofs.list.InParenthesesReadable.read.Goals as goal

pub returns-in_err-items : goal.returns-in_err-items
returns-in_err-items g c = failed (parenthesized g.T.Readable.phrase) c.from_residual.result g.met.T.Production.listable (token (next (token begin c.token-read.ensures) c.then-read.ensures) c.in_err-items.ensures) c.from_residual.ensures.1

pub returns : goal.returns
returns g c = done g.met.T.Production.listable (token (next (token begin c.token-read.ensures) c.then-read.ensures) c.in_ok-items.ensures)
