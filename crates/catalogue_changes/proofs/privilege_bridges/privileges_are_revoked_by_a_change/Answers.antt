use Rattle.catalogue_changes.proofs.PartBridgeLemmas.{revoke_done}
use Rattle.catalogue_changes.proofs.privilege_bridges.privileges_are_revoked_by_a_change.Goals as goal

pub returns : goal.returns
returns c = revoke_done
