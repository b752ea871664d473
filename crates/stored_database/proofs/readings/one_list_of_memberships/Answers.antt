use Rattle.stored_database.proofs.Roles.{one_memberships}
use Rattle.stored_database.proofs.readings.one_list_of_memberships.Goals as goal

pub returns : goal.returns
returns c = one_memberships
