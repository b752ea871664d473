use Rattle.store.proofs.HeldItems.{item_put}
use Rattle.store.proofs.items.put_items_are_held.Goals as goal

pub returns : goal.returns
returns g c = item_put
