use Rattle.store.proofs.Scans.{entry_first, change_first, change_at_first}
use Rattle.store.proofs.laws.first_under_changes.Goals as goal

pub returns-clause-entry : goal.returns-clause-entry
returns-clause-entry c = entry_first

pub returns-clause-change : goal.returns-clause-change
returns-clause-change c = change_first

pub returns-clause-both : goal.returns-clause-both
returns-clause-both c = change_at_first
