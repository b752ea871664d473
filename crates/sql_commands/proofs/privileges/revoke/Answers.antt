use Rattle.std.proofs.Common.{refl}
use Rattle.sql_commands.specs.Commands.{revoke}
use Rattle.sql_commands.proofs.Walks.{fails, read, phrase, lost_phrase}
use Rattle.sql_commands.proofs.Stepwise.{begin, token, next}
use Rattle.sql_commands.proofs.privileges.revoke.Goals as goal

pub returns-in_err-grant_option_for : goal.returns-in_err-grant_option_for
returns-in_err-grant_option_for c = fails revoke c.from_residual.result refl (lost_phrase (next (token (next (next (token (next (next (token begin c.token-read.ensures) c.three_words-read.ensures) c.then-read.ensures) c.token-read-2.ensures) c.skip-read.ensures) c.then-read-2.ensures) c.token-read-3.ensures) c.in_err-grant_option_for.ensures).met) c.from_residual.ensures.1

pub returns : goal.returns
returns c = read refl (phrase (next (token (next (next (token (next (next (token begin c.token-read.ensures) c.three_words-read.ensures) c.then-read.ensures) c.token-read-2.ensures) c.skip-read.ensures) c.then-read-2.ensures) c.token-read-3.ensures) c.in_ok-grant_option_for.ensures).met c.optional_word_of-behavior.ensures)
