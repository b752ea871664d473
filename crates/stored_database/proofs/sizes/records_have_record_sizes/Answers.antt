use Rattle.stored_database.proofs.AllSizes.{records_sized}
use Rattle.stored_database.proofs.sizes.records_have_record_sizes.Goals as goal

pub returns : goal.returns
returns c = records_sized
