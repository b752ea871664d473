use Rattle.select_labels.proofs.Plain.{plain}
use Rattle.select_labels.proofs.laws.plain_texts_stay.Goals as goal

pub returns : goal.returns
returns c = plain
