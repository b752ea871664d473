use Rattle.privilege_laws.specs.Related.{NothingTells}
use Rattle.privilege_laws.specs.Reached.{reached_by}
use Rattle.store_privilege_laws.proofs.StoresApart.{stores_part, stores_part_behind}
use Rattle.store_privilege_laws.proofs.stores.unreached_tables_part_no_stores.Goals as goal

pub returns-clause-own : goal.returns-clause-own
returns-clause-own g c = stores_part reached_by NothingTells g.R.Reader.Reads g.S.Stopping.Leave g.T.Stopping.Leave

pub returns-clause-behind : goal.returns-clause-behind
returns-clause-behind g c = stores_part_behind reached_by NothingTells g.R.Reader.Reads g.S.Stopping.Leave g.T.Stopping.Leave
