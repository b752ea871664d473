use Rattle.stored_database.proofs.OneCatalogue.{one_descriptors}
use Rattle.stored_database.proofs.readings.one_list_of_descriptors.Goals as goal

pub returns : goal.returns
returns c = one_descriptors
