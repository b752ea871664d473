use Rattle.std.proofs.Common.{refl}
use Rattle.stored_database.proofs.examples.numbers_by_the_byte.Goals as goal

pub returns : goal.returns
returns c = record { forced = refl; delete = refl; permissive = refl }
