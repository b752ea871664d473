use Rattle.database_laws.proofs.RoleLemmas.{role_added, role_dropped}
use Rattle.database_laws.proofs.definitions.roles_come_and_go.Goals as goal

pub returns-clause-created : goal.returns-clause-created
returns-clause-created c = role_added

pub returns-clause-dropped : goal.returns-clause-dropped
returns-clause-dropped c = role_dropped
