use Rattle.stored_database.proofs.OneCatalogue.{one_tables}
use Rattle.stored_database.proofs.readings.one_list_of_tables.Goals as goal

pub returns : goal.returns
returns c = one_tables
