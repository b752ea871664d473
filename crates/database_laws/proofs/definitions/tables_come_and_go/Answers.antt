use Rattle.database_laws.proofs.NewTableLemmas.{table_added, table_dropped, table_altered}
use Rattle.database_laws.proofs.definitions.tables_come_and_go.Goals as goal

pub returns-clause-created : goal.returns-clause-created
returns-clause-created c = table_added

pub returns-clause-dropped : goal.returns-clause-dropped
returns-clause-dropped c = table_dropped

pub returns-clause-altered : goal.returns-clause-altered
returns-clause-altered c = table_altered
