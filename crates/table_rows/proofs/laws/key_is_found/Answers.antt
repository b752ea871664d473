use Rattle.table_rows.proofs.Changing.{key_is_found}
use Rattle.table_rows.proofs.laws.key_is_found.Goals as goal

pub returns : goal.returns
returns c = key_is_found
