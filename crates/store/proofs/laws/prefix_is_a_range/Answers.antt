use Rattle.store.proofs.Scans.{prefix_begins, prefix_ends}
use Rattle.store.proofs.laws.prefix_is_a_range.Goals as goal

pub returns-clause-begins : goal.returns-clause-begins
returns-clause-begins c = prefix_begins

pub returns-clause-ends : goal.returns-clause-ends
returns-clause-ends c = prefix_ends
