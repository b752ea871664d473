use Rattle.gathering.proofs.Done.{done_answers_stay}
use Rattle.gathering.proofs.laws.done_answers_stay.Goals as goal

pub returns : goal.returns
returns c = done_answers_stay
