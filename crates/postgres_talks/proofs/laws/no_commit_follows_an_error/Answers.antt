use Rattle.postgres_talks.proofs.Seeing.{never_committed}
use Rattle.postgres_talks.proofs.laws.no_commit_follows_an_error.Goals as goal

pub returns : goal.returns
returns c = never_committed
