use Rattle.stored_database.proofs.Prefixes.{role_begins, membership_begins, table_begins, descriptor_begins, policy_begins, row_begins}
use Rattle.stored_database.proofs.kinds.keys_begin_with_their_kind.Goals as goal

pub returns : goal.returns
returns c = record { role = role_begins; membership = membership_begins; table = table_begins; descriptor = descriptor_begins; policy = policy_begins; row = row_begins }
