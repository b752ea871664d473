use Rattle.std.proofs.Common.{refl}
use Rattle.sql_commands.specs.Commands.{begin}
use Rattle.sql_commands.proofs.Walks.{fails, read, start, token, phrase, no_token, lost_phrase}
use Rattle.sql_commands.proofs.transactions.begin.Goals as goal

pub returns-in_err-at_work : goal.returns-in_err-at_work
returns-in_err-at_work c = fails begin c.from_residual.result refl (lost_phrase (no_token start c.in_err-at_work.ensures)) c.from_residual.ensures.1

pub returns : goal.returns
returns c = read refl (phrase (token start c.in_ok-at_work.ensures) c.skip_work-end.ensures)
