use Rattle.stored_database.proofs.Roles.{one_role}
use Rattle.stored_database.proofs.spellings.roles_have_own_records.Goals as goal

pub returns : goal.returns
returns c = one_role
