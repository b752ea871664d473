use Rattle.client_laws.proofs.Moving.{moves_so}
use Rattle.client_laws.proofs.renumbering.numbers_change_no_answer.Goals as goal

pub returns : goal.returns
returns c = moves_so
