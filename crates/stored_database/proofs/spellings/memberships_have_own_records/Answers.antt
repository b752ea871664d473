use Rattle.stored_database.proofs.Roles.{one_membership}
use Rattle.stored_database.proofs.spellings.memberships_have_own_records.Goals as goal

pub returns : goal.returns
returns c = one_membership
