use Rattle.stored_database.proofs.KeyOrder.{held_in_order}
use Rattle.stored_database.proofs.orders.held_definitions_are_in_order.Goals as goal

pub returns : goal.returns
returns c = held_in_order
