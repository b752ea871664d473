use Rattle.postgres_talks.proofs.Putting.{puts_on}
use Rattle.postgres_talks.proofs.told.say_no_data.Goals as goal

pub returns : goal.returns
returns c = puts_on _ _ _ _ _ c.in_ok-say_parameters.ensures c.in_ok-put.ensures
