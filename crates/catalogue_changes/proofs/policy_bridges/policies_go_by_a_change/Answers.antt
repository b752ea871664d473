use Rattle.catalogue_changes.proofs.PartBridgeLemmas.{drop_policy_done}
use Rattle.catalogue_changes.proofs.policy_bridges.policies_go_by_a_change.Goals as goal

pub returns : goal.returns
returns c = drop_policy_done
