use Rattle.database_laws.proofs.StoreRunLemmas.{none_falls, left_at_end}
use Rattle.database_laws.proofs.runs.stores_keep_what_was_answered.Goals as goal

pub returns-clause-numbers : goal.returns-clause-numbers
returns-clause-numbers g c = none_falls g.R.Reader.Reads g.S.Stopping.Leave

pub returns-clause-stops : goal.returns-clause-stops
returns-clause-stops g c = left_at_end g.R.Reader.Reads g.S.Stopping.Leave
