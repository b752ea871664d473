use Rattle.served_tenants.proofs.AskingAlike.{asked_alike}
use Rattle.served_tenants.proofs.saying.clients_ask_by_their_bytes.Goals as goal

pub returns : goal.returns
returns g c =
    asked_alike _ _ _ _ _ _ _ g.X.EventHandler.Reads g.S.Map.state g.Z.Map.state g.T.Talk g.C.ServedClients g.D.ServedClients g.A.Likeness.Alike
    g.met.T.Talk.front_more g.met.T.Talk.bad_more
