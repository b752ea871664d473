use Rattle.sql_commands.proofs.ReadStatements.{all_read}
use Rattle.sql_commands.proofs.laws.spelled_statements_are_read.Goals as goal

pub returns : goal.returns
returns c = all_read
