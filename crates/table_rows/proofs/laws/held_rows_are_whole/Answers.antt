use Rattle.table_rows.proofs.Changing.{held_rows_are_whole}
use Rattle.table_rows.proofs.laws.held_rows_are_whole.Goals as goal

pub returns : goal.returns
returns c = held_rows_are_whole
