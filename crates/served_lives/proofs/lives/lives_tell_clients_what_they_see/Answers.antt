use Rattle.served_lives.proofs.ServedLivesTold.{lives_tell}
use Rattle.served_lives.proofs.lives.lives_tell_clients_what_they_see.Goals as goal

pub returns : goal.returns
returns g c = lives_tell g.R.Reader.Reads
