use Rattle.catalogue_changes.proofs.RoleBridgeLemmas.{grant_role_done, revoke_role_done}
use Rattle.catalogue_changes.proofs.role_bridges.memberships_come_and_go_by_changes.Goals as goal

pub returns-clause-granted : goal.returns-clause-granted
returns-clause-granted c = grant_role_done

pub returns-clause-revoked : goal.returns-clause-revoked
returns-clause-revoked c = revoke_role_done
