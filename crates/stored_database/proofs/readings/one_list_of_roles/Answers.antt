use Rattle.stored_database.proofs.Roles.{one_roles}
use Rattle.stored_database.proofs.readings.one_list_of_roles.Goals as goal

pub returns : goal.returns
returns c = one_roles
