use Rattle.postgres_talks.proofs.Putting.{puts_on}
use Rattle.postgres_talks.proofs.rows.say_first.Goals as goal

pub returns : goal.returns
returns c = puts_on _ _ _ _ _ c.in_ok-say_each_row.ensures c.in_ok-put.ensures
