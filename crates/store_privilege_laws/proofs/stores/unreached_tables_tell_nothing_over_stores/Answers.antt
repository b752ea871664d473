use Rattle.privilege_laws.specs.Related.{NothingTells}
use Rattle.privilege_laws.specs.Reached.{reached_by}
use Rattle.privilege_laws.proofs.ReachedTables.{tables_are_hidden}
use Rattle.store_privilege_laws.proofs.RelatedStores.{stores_told}
use Rattle.store_privilege_laws.proofs.stores.unreached_tables_tell_nothing_over_stores.Goals as goal

pub returns : goal.returns
returns g c = stores_told reached_by NothingTells (λ a. tables_are_hidden a.pairs) g.R.Reader.Reads g.S.Stopping.Leave g.T.Stopping.Leave
