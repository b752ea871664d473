use Rattle.database_laws.proofs.SessionLemmas.{others_stay, own_stays}
use Rattle.database_laws.proofs.sessions.sessions_stay_apart.Goals as goal

pub returns-clause-others : goal.returns-clause-others
returns-clause-others c = others_stay

pub returns-clause-own : goal.returns-clause-own
returns-clause-own c = own_stays
