use Rattle.postgres_talks.proofs.Asking.{passed_over}
use Rattle.postgres_talks.proofs.laws.batches_stop_at_an_error.Goals as goal

pub returns : goal.returns
returns c = passed_over
