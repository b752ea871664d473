use Rattle.std.proofs.Common.{refl}
use Rattle.sql_commands.specs.Commands.{a_named_action}
use Rattle.sql_commands.proofs.Stepwise.{begin, next, done, failed}
use Rattle.sql_commands.proofs.privileges.NamedActionReadable.read.Goals as goal

pub returns-in_err-action : goal.returns-in_err-action
returns-in_err-action c = failed a_named_action c.from_residual.result refl (next (next begin c.then-read.ensures) c.in_err-action.ensures) c.from_residual.ensures.1

pub returns : goal.returns
returns c = done refl (next (next begin c.then-read.ensures) c.in_ok-action.ensures)
