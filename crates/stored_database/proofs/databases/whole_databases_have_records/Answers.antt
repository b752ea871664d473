use Rattle.stored_database.proofs.StoredDatabases.{whole_stored}
use Rattle.stored_database.proofs.databases.whole_databases_have_records.Goals as goal

pub returns : goal.returns
returns c = whole_stored
