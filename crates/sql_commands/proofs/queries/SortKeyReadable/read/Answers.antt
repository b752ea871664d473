use Rattle.std.proofs.Common.{refl}
use Rattle.sql_commands.specs.Commands.{a_sort_key}
use Rattle.sql_commands.proofs.Walks.{fails, read, start, phrase, no_phrase, lost_phrase}
use Rattle.sql_commands.proofs.queries.SortKeyReadable.read.Goals as goal

pub returns-in_err-value : goal.returns-in_err-value
returns-in_err-value c = fails a_sort_key c.from_residual.result refl (lost_phrase (no_phrase start c.in_err-value.ensures)) c.from_residual.ensures.1

pub returns : goal.returns
returns c = read refl (phrase (phrase start c.in_ok-value.ensures) c.optional_word_of-direction.ensures)
