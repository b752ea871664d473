use Rattle.std.proofs.Common.{refl}
use Rattle.sql_commands.specs.Commands.{revoke_role}
use Rattle.sql_commands.proofs.Walks.{fails, read, phrase, lost_phrase}
use Rattle.sql_commands.proofs.Stepwise.{begin, token, next}
use Rattle.sql_commands.proofs.memberships.revoke_role.Goals as goal

pub returns-in_err-roles : goal.returns-in_err-roles
returns-in_err-roles c = fails revoke_role c.from_residual.result refl (lost_phrase (next (token (next (token begin c.token-read.ensures) c.then-read.ensures) c.token-read-2.ensures) c.in_err-roles.ensures).met) c.from_residual.ensures.1

pub returns : goal.returns
returns c = read refl (phrase (next (token (next (token begin c.token-read.ensures) c.then-read.ensures) c.token-read-2.ensures) c.in_ok-roles.ensures).met c.optional_word_of-behavior.ensures)
