use Rattle.stored_database.proofs.KeyOrder.{joined_descriptors, joined_policies}
use Rattle.stored_database.proofs.orders.joined_lists_are_in_order.Goals as goal

pub returns : goal.returns
returns c = record { descriptors = joined_descriptors; policies = joined_policies }
