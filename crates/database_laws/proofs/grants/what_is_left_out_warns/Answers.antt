use Rattle.database_laws.proofs.WarningLemmas.{grant_warns, revoke_warns}
use Rattle.database_laws.proofs.grants.what_is_left_out_warns.Goals as goal

pub returns-clause-grant : goal.returns-clause-grant
returns-clause-grant c = grant_warns

pub returns-clause-revoke : goal.returns-clause-revoke
returns-clause-revoke c = revoke_warns
