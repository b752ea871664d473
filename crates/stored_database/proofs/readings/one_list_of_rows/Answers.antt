use Rattle.stored_database.proofs.OneDatabase.{one_rows}
use Rattle.stored_database.proofs.readings.one_list_of_rows.Goals as goal

pub returns : goal.returns
returns c = one_rows
