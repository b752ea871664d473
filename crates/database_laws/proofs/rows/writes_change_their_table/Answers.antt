use Rattle.database_laws.proofs.ConcernLemmas.{inserted_in_its_table, updated_in_its_table, deleted_in_its_table}
use Rattle.database_laws.proofs.rows.writes_change_their_table.Goals as goal

pub returns-clause-insert : goal.returns-clause-insert
returns-clause-insert c = λ db users s e is. inserted_in_its_table db users s e is

pub returns-clause-update : goal.returns-clause-update
returns-clause-update c = λ db users s e is. updated_in_its_table db users s e is

pub returns-clause-delete : goal.returns-clause-delete
returns-clause-delete c = λ db users s e is. deleted_in_its_table db users s e is
