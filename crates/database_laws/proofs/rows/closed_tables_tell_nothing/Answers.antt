use Rattle.database_laws.proofs.ClosedLemmas.{closed_are_untold}
use Rattle.database_laws.proofs.rows.closed_tables_tell_nothing.Goals as goal

pub returns : goal.returns
returns c = closed_are_untold
