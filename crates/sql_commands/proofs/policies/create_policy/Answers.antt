use Rattle.std.proofs.Common.{refl}
use Rattle.sql_commands.specs.Commands.{create_policy}
use Rattle.sql_commands.proofs.Stepwise.{begin, next, token, done, failed}
use Rattle.sql_commands.proofs.policies.create_policy.Goals as goal

pub returns-in_err-policy : goal.returns-in_err-policy
returns-in_err-policy c = failed (create_policy c.args.source.now) c.from_residual.result refl (next (next (next (next (next (next (token (next (token (token begin c.token-read.ensures) c.token-read-2.ensures) c.then-read.ensures) c.token-read-3.ensures) c.then-read-2.ensures) c.after_word-read.ensures) c.after_word-read-2.ensures) c.after_word-read-3.ensures) c.using-read.ensures) c.in_err-policy.ensures) c.from_residual.ensures.1

pub returns : goal.returns
returns c = done refl (next (next (next (next (next (next (token (next (token (token begin c.token-read.ensures) c.token-read-2.ensures) c.then-read.ensures) c.token-read-3.ensures) c.then-read-2.ensures) c.after_word-read.ensures) c.after_word-read-2.ensures) c.after_word-read-3.ensures) c.using-read.ensures) c.in_ok-policy.ensures)
