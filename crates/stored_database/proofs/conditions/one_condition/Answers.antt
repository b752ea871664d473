use Rattle.stored_database.proofs.ConditionTexts.{one_condition}
use Rattle.stored_database.proofs.Policies.{one_expression}
use Rattle.stored_database.proofs.conditions.one_condition.Goals as goal

pub returns : goal.returns
returns c = one_condition (one_expression c.one_answer.ensures)
