use Rattle.stored_database.proofs.Tables.{one_table}
use Rattle.stored_database.proofs.spellings.tables_have_own_records.Goals as goal

pub returns : goal.returns
returns c = one_table
