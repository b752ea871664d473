use Rattle.stored_database.proofs.Placing.{stand_for_one}
use Rattle.stored_database.proofs.places.contents_stand_for_one_database.Goals as goal

pub returns : goal.returns
returns c = stand_for_one c.one_database.ensures
