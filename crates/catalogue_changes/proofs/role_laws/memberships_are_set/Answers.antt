use Rattle.catalogue_changes.proofs.RoleChangeLemmas.{set_memberships_leads}
use Rattle.catalogue_changes.proofs.role_laws.memberships_are_set.Goals as goal

pub returns : goal.returns
returns c = set_memberships_leads
