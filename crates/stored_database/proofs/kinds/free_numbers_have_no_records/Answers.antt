use Rattle.stored_database.proofs.FreeNumbers.{free_number, no_number}
use Rattle.stored_database.proofs.kinds.free_numbers_have_no_records.Goals as goal

pub returns : goal.returns
returns c = record { free = free_number; range = no_number }
