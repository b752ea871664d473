use Rattle.database_laws.proofs.ToldApart.{stores_part, stores_part_behind, stores_go_on}
use Rattle.database_laws.proofs.runs.stores_part_at_exceptions.Goals as goal

pub returns-clause-own : goal.returns-clause-own
returns-clause-own g c = stores_part g.R.Reader.Reads g.S.Stopping.Leave g.T.Stopping.Leave

pub returns-clause-behind : goal.returns-clause-behind
returns-clause-behind g c = stores_part_behind g.R.Reader.Reads g.S.Stopping.Leave g.T.Stopping.Leave

pub returns-clause-alike : goal.returns-clause-alike
returns-clause-alike g c = stores_go_on g.R.Reader.Reads g.S.Stopping.Leave g.T.Stopping.Leave
