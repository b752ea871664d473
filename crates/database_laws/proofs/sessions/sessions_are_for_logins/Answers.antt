use Rattle.database_laws.proofs.OpeningLemmas.{opens_for_login, authorized}
use Rattle.database_laws.proofs.sessions.sessions_are_for_logins.Goals as goal

pub returns-clause-only : goal.returns-clause-only
returns-clause-only c = opens_for_login

pub returns-clause-authorized : goal.returns-clause-authorized
returns-clause-authorized c = authorized
