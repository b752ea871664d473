use Rattle.database_laws.proofs.RefusalLemmas.{fails_the_block, changes_nothing, failed_refuses, stopped_refuses}
use Rattle.database_laws.proofs.blocks.refusals_leave_no_change.Goals as goal

pub returns-clause-in_a_block : goal.returns-clause-in_a_block
returns-clause-in_a_block c = fails_the_block

pub returns-clause-elsewhere : goal.returns-clause-elsewhere
returns-clause-elsewhere c = changes_nothing

pub returns-clause-failed : goal.returns-clause-failed
returns-clause-failed c = failed_refuses

pub returns-clause-stopped : goal.returns-clause-stopped
returns-clause-stopped c = stopped_refuses
