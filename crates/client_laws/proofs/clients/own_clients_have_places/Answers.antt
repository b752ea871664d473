use Rattle.client_laws.proofs.Told.{have_places}
use Rattle.client_laws.proofs.clients.own_clients_have_places.Goals as goal

pub returns : goal.returns
returns c = have_places
