use Rattle.store_privilege_laws.proofs.MoreOverStores.{shown_by_stores, columns_by_stores}
use Rattle.store_privilege_laws.proofs.stores.stores_tell_what_is_shown.Goals as goal

pub returns-clause-rows : goal.returns-clause-rows
returns-clause-rows g c = shown_by_stores g.R.Reader.Reads g.S.Stopping.Leave g.T.Stopping.Leave

pub returns-clause-columns : goal.returns-clause-columns
returns-clause-columns g c = columns_by_stores g.R.Reader.Reads g.S.Stopping.Leave g.T.Stopping.Leave
