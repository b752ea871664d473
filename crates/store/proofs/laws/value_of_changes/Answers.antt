use Rattle.store.proofs.Changes.{lookup-applied}
use Rattle.store.proofs.laws.value_of_changes.Goals as goal

pub returns : goal.returns
returns c = lookup-applied
