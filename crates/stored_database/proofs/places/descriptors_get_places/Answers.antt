use Rattle.stored_database.proofs.Placing.{descriptor_placed, descriptor_alone, others_stay}
use Rattle.stored_database.proofs.places.descriptors_get_places.Goals as goal

pub returns-clause-spelled : goal.returns-clause-spelled
returns-clause-spelled c = descriptor_placed

pub returns-clause-only : goal.returns-clause-only
returns-clause-only c = descriptor_alone

pub returns-clause-others : goal.returns-clause-others
returns-clause-others c = others_stay
