use Rattle.stored_database.proofs.Apart.{without_tables}
use Rattle.stored_database.proofs.places.record_formats_are_apart.Goals as goal

pub returns : goal.returns
returns c = without_tables
