use Rattle.transactions.proofs.Joining.{joined_alike}
use Rattle.transactions.proofs.laws.joined_changes.Goals as goal

pub returns : goal.returns
returns c = joined_alike
