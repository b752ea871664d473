use Rattle.sql_commands.proofs.Table.{command_ends}
use Rattle.sql_commands.proofs.laws.every_command_ends.Goals as goal

pub returns : goal.returns
returns c = command_ends
