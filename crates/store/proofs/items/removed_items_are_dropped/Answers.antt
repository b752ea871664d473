use Rattle.store.proofs.HeldItems.{item_dropped}
use Rattle.store.proofs.items.removed_items_are_dropped.Goals as goal

pub returns : goal.returns
returns g c = item_dropped
