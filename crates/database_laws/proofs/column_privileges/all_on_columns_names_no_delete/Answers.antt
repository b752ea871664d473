use Rattle.database_laws.proofs.ColumnPrivilegeLemmas.{all_on_columns}
use Rattle.database_laws.proofs.column_privileges.all_on_columns_names_no_delete.Goals as goal

pub returns : goal.returns
returns c = all_on_columns
