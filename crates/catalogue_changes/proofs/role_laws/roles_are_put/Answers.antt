use Rattle.catalogue_changes.proofs.RoleChangeLemmas.{put_role_leads}
use Rattle.catalogue_changes.proofs.role_laws.roles_are_put.Goals as goal

pub returns : goal.returns
returns c = put_role_leads
