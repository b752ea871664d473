use Rattle.privilege_laws.proofs.HiddenWrites.{sizes_alone}
use Rattle.privilege_laws.proofs.columns.hidden_columns_tell_sizes_alone.Goals as goal

pub returns : goal.returns
returns c = sizes_alone
