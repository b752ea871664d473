use Rattle.database_laws.proofs.TwoTenants.{premises_met}
use Rattle.database_laws.proofs.sessions.tenants_meet_the_premises.Goals as goal

pub returns : goal.returns
returns c = premises_met
