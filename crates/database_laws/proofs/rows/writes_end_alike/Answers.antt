use Rattle.database_laws.proofs.AlikeLemmas.{delete_ends_alike}
use Rattle.database_laws.proofs.AlikeWriteLemmas.{insert_ends_alike, update_ends_alike}
use Rattle.database_laws.proofs.rows.writes_end_alike.Goals as goal

pub returns-clause-inserted : goal.returns-clause-inserted
returns-clause-inserted c = λ users d e s on_d on_e alike. insert_ends_alike users d e alike s on_d on_e

pub returns-clause-updated : goal.returns-clause-updated
returns-clause-updated c = λ users d e s reads on_d on_e alike. update_ends_alike users d e alike s reads on_d on_e

pub returns-clause-deleted : goal.returns-clause-deleted
returns-clause-deleted c = λ users d e s reads alike. delete_ends_alike users d e alike s reads
