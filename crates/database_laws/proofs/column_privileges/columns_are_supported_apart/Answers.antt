use Rattle.database_laws.proofs.ColumnPrivilegeLemmas.{column_supported, table_supported, cycle_column}
use Rattle.database_laws.proofs.column_privileges.columns_are_supported_apart.Goals as goal

pub returns-clause-column : goal.returns-clause-column
returns-clause-column c = column_supported

pub returns-clause-table : goal.returns-clause-table
returns-clause-table c = table_supported

pub returns-clause-cycle : goal.returns-clause-cycle
returns-clause-cycle c = cycle_column
