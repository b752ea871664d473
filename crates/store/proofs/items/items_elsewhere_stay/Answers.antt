use Rattle.store.proofs.HeldItems.{items_elsewhere}
use Rattle.store.proofs.items.items_elsewhere_stay.Goals as goal

pub returns : goal.returns
returns g c = items_elsewhere
