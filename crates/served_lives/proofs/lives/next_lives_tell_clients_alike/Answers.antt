use Rattle.served_lives.proofs.ServedLivesTold.{next_tell, no_more_commits}
use Rattle.served_lives.proofs.lives.next_lives_tell_clients_alike.Goals as goal

pub returns-clause-next : goal.returns-clause-next
returns-clause-next g c = next_tell g.R.Reader.Reads

pub returns-clause-commits : goal.returns-clause-commits
returns-clause-commits g c = no_more_commits g.R.Reader.Reads
