use Rattle.store.proofs.Turns.{first_change_first}
use Rattle.store.proofs.laws.first_change_first.Goals as goal

pub returns : goal.returns
returns c = first_change_first
