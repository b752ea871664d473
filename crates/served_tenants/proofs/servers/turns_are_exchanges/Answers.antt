use Rattle.served_tenants.proofs.Making.{made_so}
use Rattle.served_tenants.proofs.servers.turns_are_exchanges.Goals as goal

pub returns : goal.returns
returns g c = made_so g.X.EventHandler.Reads g.S.Map.state g.T.Talk g.C.ServedClients
