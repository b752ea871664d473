use Rattle.database_laws.proofs.WholeSound.{whole_sound}
use Rattle.database_laws.proofs.whole_databases.whole_databases_are_sound.Goals as goal

pub returns : goal.returns
returns c = whole_sound
