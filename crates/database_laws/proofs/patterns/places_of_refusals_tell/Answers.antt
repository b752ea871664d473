use Rattle.database_laws.proofs.HiddenKeys.{places_tell}
use Rattle.database_laws.proofs.patterns.places_of_refusals_tell.Goals as goal

pub returns : goal.returns
returns c = places_tell
