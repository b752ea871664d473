use Rattle.database_laws.proofs.ConcernLemmas.{inserted_its_rows, updated_its_rows, deleted_its_rows}
use Rattle.database_laws.proofs.rows.writes_change_what_they_concern.Goals as goal

pub returns-clause-inserted : goal.returns-clause-inserted
returns-clause-inserted c = λ db users s e t named is. inserted_its_rows db users s e is t named

pub returns-clause-updated : goal.returns-clause-updated
returns-clause-updated c = λ db users s e t named is. updated_its_rows db users s e is t named

pub returns-clause-deleted : goal.returns-clause-deleted
returns-clause-deleted c = λ db users s e t named is. deleted_its_rows db users s e is t named
