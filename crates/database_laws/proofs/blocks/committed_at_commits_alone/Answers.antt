use Rattle.database_laws.proofs.CommitLemmas.{committed_by, takes_effect}
use Rattle.database_laws.proofs.StartLemmas.{selected_unchanged}
use Rattle.database_laws.proofs.blocks.committed_at_commits_alone.Goals as goal

pub returns-clause-commits : goal.returns-clause-commits
returns-clause-commits c = committed_by

pub returns-clause-writes : goal.returns-clause-writes
returns-clause-writes c = takes_effect

pub returns-clause-selects : goal.returns-clause-selects
returns-clause-selects c = selected_unchanged
