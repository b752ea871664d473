use Rattle.catalogue_changes.proofs.RoleBridgeLemmas.{create_role_done, drop_role_done}
use Rattle.catalogue_changes.proofs.role_bridges.roles_come_and_go_by_changes.Goals as goal

pub returns-clause-created : goal.returns-clause-created
returns-clause-created c = create_role_done

pub returns-clause-dropped : goal.returns-clause-dropped
returns-clause-dropped c = drop_role_done
