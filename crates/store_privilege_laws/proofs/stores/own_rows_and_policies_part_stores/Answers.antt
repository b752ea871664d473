use Rattle.store_privilege_laws.proofs.MoreOverStores.{notes_over_stores, pay_over_stores}
use Rattle.store_privilege_laws.proofs.stores.own_rows_and_policies_part_stores.Goals as goal

pub returns-clause-rows : goal.returns-clause-rows
returns-clause-rows c = notes_over_stores

pub returns-clause-columns : goal.returns-clause-columns
returns-clause-columns c = pay_over_stores
