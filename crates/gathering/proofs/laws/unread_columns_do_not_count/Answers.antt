use Rattle.gathering.proofs.Kept.{unread_columns_do_not_count}
use Rattle.gathering.proofs.laws.unread_columns_do_not_count.Goals as goal

pub returns : goal.returns
returns c = unread_columns_do_not_count
