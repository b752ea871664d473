use Rattle.statement_parameters.proofs.Plain.{plain}
use Rattle.statement_parameters.proofs.laws.plain_texts_stay.Goals as goal

pub returns : goal.returns
returns c = plain
