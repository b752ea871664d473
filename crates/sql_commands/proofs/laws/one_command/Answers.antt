use Rattle.sql_commands.proofs.OneCommand.{one_command}
use Rattle.sql_commands.proofs.laws.one_command.Goals as goal

pub returns : goal.returns
returns c = one_command
