use Rattle.served_tenants.proofs.SaidAlike.{said_by_servers}
use Rattle.served_tenants.proofs.saying.servers_say_clients_the_same.Goals as goal

pub returns : goal.returns
returns g c =
    said_by_servers _ _ _ _ _ _ _ g.X.EventHandler.Reads g.S.Map.state g.Z.Map.state g.T.Talk g.C.ServedClients g.D.ServedClients g.A.Likeness.Alike
    g.met.T.Talk.front_more g.met.T.Talk.bad_more
