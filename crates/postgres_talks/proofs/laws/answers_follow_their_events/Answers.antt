use Rattle.postgres_talks.proofs.Asking.{no_answer}
use Rattle.postgres_talks.proofs.laws.answers_follow_their_events.Goals as goal

pub returns : goal.returns
returns c = no_answer
