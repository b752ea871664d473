use Rattle.postgres_talks.proofs.Putting.{puts_more}
use Rattle.postgres_talks.proofs.telling.say_table_of.Goals as goal

pub returns : goal.returns
returns c = puts_more _ _ _ _ _ c.in_ok-say_columns.ensures c.in_ok-say_rows.ensures
