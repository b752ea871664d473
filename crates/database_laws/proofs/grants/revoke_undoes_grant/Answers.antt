use Rattle.database_laws.proofs.UndoLemmas.{undone}
use Rattle.database_laws.proofs.AgainLemmas.{undoes}
use Rattle.database_laws.proofs.grants.revoke_undoes_grant.Goals as goal

pub returns-clause-set : goal.returns-clause-set
returns-clause-set c = undone

pub returns-clause-database : goal.returns-clause-database
returns-clause-database c = undoes
