use Rattle.database_laws.proofs.Tenants.{apart_unseen, tenants_unseen}
use Rattle.database_laws.proofs.sessions.tenants_act_out_of_sight.Goals as goal

pub returns-clause-apart : goal.returns-clause-apart
returns-clause-apart c = apart_unseen

pub returns-clause-tenants : goal.returns-clause-tenants
returns-clause-tenants c = tenants_unseen
