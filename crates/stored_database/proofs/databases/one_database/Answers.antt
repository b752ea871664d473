use Rattle.stored_database.proofs.OneDatabase.{one_database}
use Rattle.stored_database.proofs.Policies.{one_expression}
use Rattle.stored_database.proofs.databases.one_database.Goals as goal

pub returns : goal.returns
returns c = one_database (one_expression c.one_answer.ensures)
