use Rattle.store.proofs.Changes.{entries_where-applied}
use Rattle.store.proofs.laws.changes_are_filtered.Goals as goal

pub returns : goal.returns
returns c = entries_where-applied
