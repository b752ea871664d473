use Rattle.database_laws.proofs.StatementLemmas.{staged, reads_no_rows}
use Rattle.database_laws.proofs.stages.checks_come_first.Goals as goal

pub returns-clause-performed : goal.returns-clause-performed
returns-clause-performed c = staged

pub returns-clause-no_rows : goal.returns-clause-no_rows
returns-clause-no_rows c = reads_no_rows
