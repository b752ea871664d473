use Rattle.database_laws.proofs.StatementLemmas.{may_define, spared}
use Rattle.database_laws.proofs.rights.definitions_need_rights.Goals as goal

pub returns-clause-only : goal.returns-clause-only
returns-clause-only c = may_define

pub returns-clause-not_refused : goal.returns-clause-not_refused
returns-clause-not_refused c = spared
