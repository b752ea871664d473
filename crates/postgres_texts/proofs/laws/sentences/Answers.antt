use Rattle.postgres_texts.proofs.Tables.{no_zero_in_refusal, no_zero_in_warning}
use Rattle.postgres_texts.proofs.laws.sentences.Goals as goal

pub returns-clause-refusals : goal.returns-clause-refusals
returns-clause-refusals c = no_zero_in_refusal

pub returns-clause-warnings : goal.returns-clause-warnings
returns-clause-warnings c = no_zero_in_warning
