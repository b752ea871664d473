use Rattle.abstract_database.proofs.CheckLemmas.{update_checked, delete_checked}
use Rattle.database_laws.proofs.ReadingLemmas.{update_reads, delete_reads}
use Rattle.database_laws.proofs.writes.columns_are_read_as_written.Goals as goal

pub returns-clause-updates : goal.returns-clause-updates
returns-clause-updates c = λ db users s checked is. update_reads db users s checked (update_checked db users s checked is)

pub returns-clause-deletes : goal.returns-clause-deletes
returns-clause-deletes c = λ db users s checked is. delete_reads db users s checked (delete_checked db users s checked is)
