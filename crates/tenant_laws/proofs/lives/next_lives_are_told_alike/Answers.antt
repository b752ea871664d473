use Rattle.tenant_laws.proofs.LivesApart.{next_told, begin_without_sessions}
use Rattle.tenant_laws.proofs.lives.next_lives_are_told_alike.Goals as goal

pub returns-clause-next : goal.returns-clause-next
returns-clause-next g c = next_told g.R.Reader.Reads g.S.Restarting.Leave g.T.Restarting.Leave

pub returns-clause-sessions : goal.returns-clause-sessions
returns-clause-sessions g c = begin_without_sessions g.R.Reader.Reads g.S.Restarting.Leave
