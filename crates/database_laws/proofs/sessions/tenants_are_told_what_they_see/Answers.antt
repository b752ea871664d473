use Rattle.database_laws.proofs.ToldRuns.{told}
use Rattle.database_laws.proofs.ToldUnseen.{acts_out_of_sight}
use Rattle.database_laws.proofs.sessions.tenants_are_told_what_they_see.Goals as goal

pub returns-clause-told : goal.returns-clause-told
returns-clause-told c = told

pub returns-clause-unseen : goal.returns-clause-unseen
returns-clause-unseen c = acts_out_of_sight
