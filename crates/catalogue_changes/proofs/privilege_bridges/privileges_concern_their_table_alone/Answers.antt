use Rattle.catalogue_changes.proofs.AloneLemmas.{grant_alone, revoke_alone}
use Rattle.catalogue_changes.proofs.privilege_bridges.privileges_concern_their_table_alone.Goals as goal

pub returns-clause-granted : goal.returns-clause-granted
returns-clause-granted c = grant_alone

pub returns-clause-revoked : goal.returns-clause-revoked
returns-clause-revoked c = revoke_alone
