use Rattle.postgres_talks.proofs.Asking.{nothing_follows}
use Rattle.postgres_talks.proofs.laws.bad_messages_end.Goals as goal

pub returns : goal.returns
returns c = nothing_follows
