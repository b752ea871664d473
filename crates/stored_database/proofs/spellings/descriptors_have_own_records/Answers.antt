use Rattle.stored_database.proofs.Descriptors.{one_descriptor}
use Rattle.stored_database.proofs.spellings.descriptors_have_own_records.Goals as goal

pub returns : goal.returns
returns c = one_descriptor
