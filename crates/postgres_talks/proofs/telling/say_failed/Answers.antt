use Rattle.postgres_talks.proofs.Putting.{puts_more}
use Rattle.postgres_talks.proofs.telling.say_failed.Goals as goal

pub returns : goal.returns
returns c = puts_more _ _ _ _ _ c.in_ok-put_error.ensures c.in_ok-ready_behind.ensures
