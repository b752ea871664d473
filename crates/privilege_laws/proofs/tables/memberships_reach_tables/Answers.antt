use Rattle.privilege_laws.proofs.TwoOwners.{plans_tell_nothing, plans_tell_staff}
use Rattle.privilege_laws.proofs.tables.memberships_reach_tables.Goals as goal

pub returns-clause-alike : goal.returns-clause-alike
returns-clause-alike c = plans_tell_nothing

pub returns-clause-apart : goal.returns-clause-apart
returns-clause-apart c = plans_tell_staff
