use Rattle.database_laws.proofs.LockLemmas.{transition_preserves, transition_unseen, seen_committed}
use Rattle.database_laws.proofs.sessions.one_holder.Goals as goal

pub returns-clause-holder : goal.returns-clause-holder
returns-clause-holder c = transition_preserves

pub returns-clause-committed : goal.returns-clause-committed
returns-clause-committed c = seen_committed

pub returns-clause-unseen : goal.returns-clause-unseen
returns-clause-unseen c = transition_unseen
