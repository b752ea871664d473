use Rattle.stored_database.proofs.Prefixes.{one_kind, one_id}
use Rattle.stored_database.proofs.kinds.keys_have_one_kind.Goals as goal

pub returns : goal.returns
returns c = record { kind = one_kind; descriptor = one_id 4; policy = one_id 5; row = one_id 6 }
