use Rattle.postgres_talks.proofs.Putting.{puts_on, puts_more}
use Rattle.postgres_talks.proofs.telling.greet.Goals as goal

pub returns : goal.returns
returns c = puts_more _ _ _ _ _ c.in_ok-put.ensures (puts_on _ _ _ _ _ c.in_ok-say_settings.ensures (puts_more _ _ _ _ _ c.in_ok-put-2.ensures c.in_ok-put_ready.ensures))
