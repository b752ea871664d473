use Rattle.client_laws.proofs.Told.{stores_told}
use Rattle.client_laws.proofs.clients.stores_tell_clients_what_they_see.Goals as goal

pub returns : goal.returns
returns g c = stores_told g.R.Reader.Reads g.S.Stopping.Leave g.T.Stopping.Leave
