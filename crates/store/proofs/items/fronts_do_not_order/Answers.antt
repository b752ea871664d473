use Rattle.store.proofs.HeldItems.{own_prefix, same_front}
use Rattle.store.proofs.items.fronts_do_not_order.Goals as goal

pub returns-clause-prefix : goal.returns-clause-prefix
returns-clause-prefix c = own_prefix

pub returns-clause-order : goal.returns-clause-order
returns-clause-order c = same_front
