use Rattle.store_privilege_laws.proofs.PlansOverStores.{plans_stay_hidden, plans_part_stores}
use Rattle.store_privilege_laws.proofs.stores.memberships_part_stores.Goals as goal

pub returns-clause-alike : goal.returns-clause-alike
returns-clause-alike c = plans_stay_hidden

pub returns-clause-apart : goal.returns-clause-apart
returns-clause-apart c = plans_part_stores
