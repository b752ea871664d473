use Rattle.stored_database.proofs.OneCatalogue.{one_policies}
use Rattle.stored_database.proofs.Policies.{one_expression}
use Rattle.stored_database.proofs.readings.one_list_of_policies.Goals as goal

pub returns : goal.returns
returns c = one_policies (one_expression c.one_answer.ensures)
