use Rattle.stored_database.proofs.Prefixes.{no_definitions, no_database}
use Rattle.stored_database.proofs.kinds.orphans_stand_for_nothing.Goals as goal

pub returns : goal.returns
returns c = record { definitions = no_definitions; rows = no_database }
