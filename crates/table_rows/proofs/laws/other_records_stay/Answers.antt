use Rattle.table_rows.proofs.Changing.{other_records_stay}
use Rattle.table_rows.proofs.laws.other_records_stay.Goals as goal

pub returns : goal.returns
returns c = other_records_stay
