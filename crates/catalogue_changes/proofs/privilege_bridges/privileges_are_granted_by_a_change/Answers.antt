use Rattle.catalogue_changes.proofs.PartBridgeLemmas.{grant_done}
use Rattle.catalogue_changes.proofs.privilege_bridges.privileges_are_granted_by_a_change.Goals as goal

pub returns : goal.returns
returns c = grant_done
