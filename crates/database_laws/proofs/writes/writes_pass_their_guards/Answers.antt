use Rattle.database_laws.proofs.WriteLemmas.{inserted_passed, inserted_kept, updated_passed, updated_took, deleted_added, deleted_took}
use Rattle.database_laws.proofs.writes.writes_pass_their_guards.Goals as goal

pub returns-clause-inserted : goal.returns-clause-inserted
returns-clause-inserted c = λ db users s e t named is row h. inserted_passed db users s e is t named row h

pub returns-clause-kept : goal.returns-clause-kept
returns-clause-kept c = λ db users s e is row h. inserted_kept db users s e is row h

pub returns-clause-updated : goal.returns-clause-updated
returns-clause-updated c = λ db users s e t named is row h. updated_passed db users s e is t named row h

pub returns-clause-replaced : goal.returns-clause-replaced
returns-clause-replaced c = λ db users s e t named is row h. updated_took db users s e is t named row h

pub returns-clause-fewer : goal.returns-clause-fewer
returns-clause-fewer c = λ db users s e is row h. deleted_added db users s e is row h

pub returns-clause-deleted : goal.returns-clause-deleted
returns-clause-deleted c = λ db users s e t named is row h. deleted_took db users s e is t named row h
