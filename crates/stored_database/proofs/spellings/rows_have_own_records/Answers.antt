use Rattle.stored_database.proofs.Rows.{one_row}
use Rattle.stored_database.proofs.spellings.rows_have_own_records.Goals as goal

pub returns : goal.returns
returns c = one_row
