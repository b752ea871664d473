use Rattle.stored_database.proofs.Lengths.{role_size, membership_size, table_size, descriptor_size, policy_sizes, row_size}
use Rattle.stored_database.proofs.sizes.items_have_record_sizes.Goals as goal

pub returns : goal.returns
returns c = record { role = role_size; membership = membership_size; table = table_size; descriptor = descriptor_size; policy = policy_sizes; row = row_size }
