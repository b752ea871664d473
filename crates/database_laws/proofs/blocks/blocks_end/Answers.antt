use Rattle.database_laws.proofs.CommitLemmas.{commits_block, commits_failed, rolls_block_back}
use Rattle.database_laws.proofs.blocks.blocks_end.Goals as goal

pub returns-clause-commit : goal.returns-clause-commit
returns-clause-commit c = commits_block

pub returns-clause-failed : goal.returns-clause-failed
returns-clause-failed c = commits_failed

pub returns-clause-rollback : goal.returns-clause-rollback
returns-clause-rollback c = rolls_block_back
