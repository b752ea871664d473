use Rattle.table_rows.proofs.Changing.{update_is_held}
use Rattle.table_rows.proofs.laws.update_is_held.Goals as goal

pub returns : goal.returns
returns c = update_is_held
