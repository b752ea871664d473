use Rattle.tenant_laws.proofs.LivesTold.{lives_tell}
use Rattle.tenant_laws.proofs.lives.lives_tell_tenants_what_they_see.Goals as goal

pub returns : goal.returns
returns g c = lives_tell g.R.Reader.Reads g.S.Restarting.Leave g.T.Restarting.Leave
