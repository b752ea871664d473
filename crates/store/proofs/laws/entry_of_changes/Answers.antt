use Rattle.store.proofs.Changes.{entry_changed, entry_unchanged}
use Rattle.store.proofs.laws.entry_of_changes.Goals as goal

pub returns-clause-changed : goal.returns-clause-changed
returns-clause-changed c = entry_changed

pub returns-clause-unchanged : goal.returns-clause-unchanged
returns-clause-unchanged c = entry_unchanged
