use Rattle.database_laws.proofs.StartLemmas.{role_set_alone, role_reset}
use Rattle.database_laws.proofs.rights.roles_are_set_and_reset.Goals as goal

pub returns-clause-set : goal.returns-clause-set
returns-clause-set c = role_set_alone

pub returns-clause-reset : goal.returns-clause-reset
returns-clause-reset c = role_reset
