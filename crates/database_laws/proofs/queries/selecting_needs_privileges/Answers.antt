use Rattle.database_laws.proofs.NeedLemmas.{selecting_needs, naming_needs, asterisk_needs}
use Rattle.database_laws.proofs.queries.selecting_needs_privileges.Goals as goal

pub returns-clause-tables : goal.returns-clause-tables
returns-clause-tables c = λ db users s e is r h. selecting_needs db users s e is r h

pub returns-clause-naming : goal.returns-clause-naming
returns-clause-naming c = λ db users s e tables found is p c i t. naming_needs db users s e is tables found p c i t

pub returns-clause-asterisk : goal.returns-clause-asterisk
returns-clause-asterisk c = λ db users s e tables found is all t index. asterisk_needs db users s e is tables found all t index
