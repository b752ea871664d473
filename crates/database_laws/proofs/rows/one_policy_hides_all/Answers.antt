use Rattle.database_laws.proofs.OnePolicy.{for_all_ends_alike, by_key_ends_alike}
use Rattle.database_laws.proofs.rows.one_policy_hides_all.Goals as goal

pub returns-clause-alike : goal.returns-clause-alike
returns-clause-alike c = for_all_ends_alike

pub returns-clause-keys : goal.returns-clause-keys
returns-clause-keys c = by_key_ends_alike
