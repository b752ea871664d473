use Rattle.database_laws.specs.HiddenRuns.{IsException}
use Rattle.privilege_laws.specs.Shown.{shown_to}
use Rattle.store_privilege_laws.proofs.StoresApart.{stores_part}
use Rattle.store_privilege_laws.proofs.MoreOverStores.{columns_part}
use Rattle.store_privilege_laws.proofs.stores.what_is_hidden_parts_no_stores.Goals as goal

pub returns-clause-rows : goal.returns-clause-rows
returns-clause-rows g c = stores_part shown_to IsException g.R.Reader.Reads g.S.Stopping.Leave g.T.Stopping.Leave

pub returns-clause-columns : goal.returns-clause-columns
returns-clause-columns g c = columns_part g.R.Reader.Reads g.S.Stopping.Leave g.T.Stopping.Leave
