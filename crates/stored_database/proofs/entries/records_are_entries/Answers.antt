use Rattle.stored_database.proofs.AllRecords.{records_are_entries}
use Rattle.stored_database.proofs.entries.records_are_entries.Goals as goal

pub returns : goal.returns
returns c = records_are_entries
