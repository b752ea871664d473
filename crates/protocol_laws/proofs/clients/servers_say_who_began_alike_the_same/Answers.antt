use Rattle.protocol_laws.proofs.Begun.{served_alike}
use Rattle.protocol_laws.proofs.clients.servers_say_who_began_alike_the_same.Goals as goal

pub returns : goal.returns
returns g c speaks =
    served_alike _ _ _ _ _ _ _ g.X.EventHandler.Reads g.S.Map.state g.Z.Map.state g.T.Talk g.C.ServedClients g.D.ServedClients g.A.Likeness.Alike g.A.Likeness.Alike
    g.met.T.Talk.front_more g.met.T.Talk.bad_more speaks (λ x y starts starts_there alike. alike)
