use Rattle.stored_database.proofs.OneCatalogue.{one_catalogue}
use Rattle.stored_database.proofs.Policies.{one_expression}
use Rattle.stored_database.proofs.databases.one_catalogue.Goals as goal

pub returns : goal.returns
returns c = one_catalogue (one_expression c.one_answer.ensures)
