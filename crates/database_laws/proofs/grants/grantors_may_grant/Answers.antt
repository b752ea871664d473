use Rattle.database_laws.proofs.GrantorLemmas.{acting_may_grant, owner_acts}
use Rattle.database_laws.proofs.grants.grantors_may_grant.Goals as goal

pub returns-clause-may : goal.returns-clause-may
returns-clause-may c = acting_may_grant

pub returns-clause-owner : goal.returns-clause-owner
returns-clause-owner c = owner_acts
