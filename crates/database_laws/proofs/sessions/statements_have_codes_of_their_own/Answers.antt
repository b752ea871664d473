use Rattle.database_laws.proofs.RefusedAlike.{needs_no_store}
use Rattle.database_laws.proofs.StatementCodes.{exec_owns}
use Rattle.database_laws.proofs.sessions.statements_have_codes_of_their_own.Goals as goal

pub returns-clause-statements : goal.returns-clause-statements
returns-clause-statements c = exec_owns

pub returns-clause-machines : goal.returns-clause-machines
returns-clause-machines c = needs_no_store
