use Rattle.database_laws.proofs.PolicyLemmas.{policy_added, policy_dropped}
use Rattle.database_laws.proofs.definitions.policies_come_and_go.Goals as goal

pub returns-clause-created : goal.returns-clause-created
returns-clause-created c = policy_added

pub returns-clause-dropped : goal.returns-clause-dropped
returns-clause-dropped c = policy_dropped
