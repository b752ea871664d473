use Rattle.database_laws.proofs.ColumnPrivilegeLemmas.{grant_finds, revoke_finds, grant_refused, revoke_refused}
use Rattle.database_laws.proofs.column_privileges.named_columns_are_there.Goals as goal

pub returns-clause-granted : goal.returns-clause-granted
returns-clause-granted c = grant_finds

pub returns-clause-revoked : goal.returns-clause-revoked
returns-clause-revoked c = revoke_finds

pub returns-clause-grant_refused : goal.returns-clause-grant_refused
returns-clause-grant_refused c = grant_refused

pub returns-clause-revoke_refused : goal.returns-clause-revoke_refused
returns-clause-revoke_refused c = revoke_refused
