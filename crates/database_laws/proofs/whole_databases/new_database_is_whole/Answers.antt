use Rattle.database_laws.proofs.WholeRoles.{new_is_whole}
use Rattle.database_laws.proofs.whole_databases.new_database_is_whole.Goals as goal

pub returns : goal.returns
returns c = new_is_whole
