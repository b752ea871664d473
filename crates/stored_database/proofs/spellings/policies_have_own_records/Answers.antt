use Rattle.stored_database.proofs.Policies.{one_expression, one_policy}
use Rattle.stored_database.proofs.spellings.policies_have_own_records.Goals as goal

pub returns : goal.returns
returns c = one_policy (one_expression c.one_answer.ensures)
