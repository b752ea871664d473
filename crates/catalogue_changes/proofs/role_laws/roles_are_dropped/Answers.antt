use Rattle.catalogue_changes.proofs.RoleChangeLemmas.{drop_role_leads}
use Rattle.catalogue_changes.proofs.role_laws.roles_are_dropped.Goals as goal

pub returns : goal.returns
returns c = drop_role_leads
