use Rattle.privilege_laws.proofs.HiddenColumns.{selects_told}
use Rattle.privilege_laws.proofs.columns.hidden_columns_tell_no_select.Goals as goal

pub returns : goal.returns
returns c = selects_told
