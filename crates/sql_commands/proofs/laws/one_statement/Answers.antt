use Rattle.sql_commands.proofs.OneCommand.{one_statement}
use Rattle.sql_commands.proofs.laws.one_statement.Goals as goal

pub returns : goal.returns
returns c = one_statement
