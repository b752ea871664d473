use Rattle.stored_database.proofs.Placing.{ordered_places}
use Rattle.stored_database.proofs.places.places_keep_the_order.Goals as goal

pub returns : goal.returns
returns c = ordered_places
