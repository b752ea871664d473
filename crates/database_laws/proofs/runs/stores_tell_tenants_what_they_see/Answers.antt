use Rattle.database_laws.proofs.ToldStores.{told_by_stores, goes_alike, goes_unseen}
use Rattle.database_laws.proofs.runs.stores_tell_tenants_what_they_see.Goals as goal

pub returns-clause-runs : goal.returns-clause-runs
returns-clause-runs g c = told_by_stores g.R.Reader.Reads g.S.Stopping.Leave g.T.Stopping.Leave

pub returns-clause-own : goal.returns-clause-own
returns-clause-own g c = goes_alike g.R.Reader.Reads g.S.Stopping.Leave g.T.Stopping.Leave

pub returns-clause-others : goal.returns-clause-others
returns-clause-others g c = goes_unseen g.R.Reader.Reads g.S.Stopping.Leave
