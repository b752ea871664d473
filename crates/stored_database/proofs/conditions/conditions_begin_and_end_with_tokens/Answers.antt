use Rattle.stored_database.proofs.ConditionTexts.{tokens_around}
use Rattle.stored_database.proofs.conditions.conditions_begin_and_end_with_tokens.Goals as goal

pub returns : goal.returns
returns c = tokens_around
