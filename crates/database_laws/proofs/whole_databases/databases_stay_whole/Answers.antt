use Rattle.database_laws.proofs.StatementLemmas.{each_kept, events_kept}
use Rattle.database_laws.proofs.whole_databases.databases_stay_whole.Goals as goal

pub returns-clause-statements : goal.returns-clause-statements
returns-clause-statements c = each_kept

pub returns-clause-events : goal.returns-clause-events
returns-clause-events c = events_kept
