use Rattle.store.proofs.Changes.{same_values}
use Rattle.store.proofs.laws.records_are_their_values.Goals as goal

pub returns : goal.returns
returns c = same_values
