use Rattle.database_laws.proofs.SetRoleLemmas.{for_roles, role_is_set}
use Rattle.database_laws.proofs.rights.roles_are_allowed.Goals as goal

pub returns-clause-executed : goal.returns-clause-executed
returns-clause-executed c = for_roles

pub returns-clause-set : goal.returns-clause-set
returns-clause-set c = role_is_set
