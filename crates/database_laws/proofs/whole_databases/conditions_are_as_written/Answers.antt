use Rattle.database_laws.proofs.StatementLemmas.{clauses_known}
use Rattle.database_laws.proofs.whole_databases.conditions_are_as_written.Goals as goal

pub returns : goal.returns
returns c = clauses_known
