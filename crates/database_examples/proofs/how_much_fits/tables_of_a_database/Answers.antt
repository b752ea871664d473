use Rattle.std.specs.Prelude.{refl}
use Rattle.database_examples.proofs.how_much_fits.tables_of_a_database.Goals as goal

pub returns : goal.returns
returns c = refl
