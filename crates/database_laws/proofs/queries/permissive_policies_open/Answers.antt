use Rattle.database_laws.proofs.GuardLemmas.{closed, closed_by_drop}
use Rattle.database_laws.proofs.queries.permissive_policies_open.Goals as goal

pub returns-clause-closed : goal.returns-clause-closed
returns-clause-closed c = closed

pub returns-clause-dropped : goal.returns-clause-dropped
returns-clause-dropped c = closed_by_drop
