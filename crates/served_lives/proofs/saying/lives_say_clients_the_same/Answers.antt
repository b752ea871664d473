use Rattle.served_lives.proofs.SaidLives.{said_by_lives}
use Rattle.served_lives.proofs.saying.lives_say_clients_the_same.Goals as goal

pub returns : goal.returns
returns g c =
    said_by_lives _ _ _ _ _ _ _ g.X.EventHandler.Reads g.S.Map.state g.Z.Map.state g.T.Talk g.C.ServedClients g.D.ServedClients g.A.Likeness.Alike
    g.met.T.Talk.front_more g.met.T.Talk.bad_more
