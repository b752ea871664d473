use Rattle.catalogue_changes.proofs.PartBridgeLemmas.{create_policy_done}
use Rattle.catalogue_changes.proofs.policy_bridges.policies_come_by_a_change.Goals as goal

pub returns : goal.returns
returns c = create_policy_done
