use Rattle.stored_database.proofs.KeyOrder.{role_order, membership_order, table_order, descriptor_order, policy_order, row_order}
use Rattle.stored_database.proofs.orders.keys_are_in_the_order_of_items.Goals as goal

pub returns : goal.returns
returns c = record { role = role_order; membership = membership_order; table = table_order; descriptor = descriptor_order; policy = policy_order; row = row_order }
