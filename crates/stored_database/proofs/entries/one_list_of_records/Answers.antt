use Rattle.stored_database.proofs.OneMap.{one_map}
use Rattle.stored_database.proofs.entries.one_list_of_records.Goals as goal

pub returns : goal.returns
returns c = one_map
