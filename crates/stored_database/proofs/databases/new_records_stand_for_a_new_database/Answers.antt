use Rattle.stored_database.proofs.NewDatabase.{new_stands}
use Rattle.stored_database.proofs.databases.new_records_stand_for_a_new_database.Goals as goal

pub returns : goal.returns
returns c = new_stands
