use Rattle.served_lives.proofs.SaidBefore.{learnt_all, said_before}
use Rattle.served_lives.proofs.saying.parted_lives_say_clients_the_same_before.Goals as goal

pub returns-clause-says : goal.returns-clause-says
returns-clause-says g c =
    said_before _ _ _ _ _ _ _ g.X.EventHandler.Reads g.S.Map.state g.Z.Map.state g.T.Talk g.C.ServedClients g.D.ServedClients g.A.Likeness.Alike
    g.met.T.Talk.front_more g.met.T.Talk.bad_more

pub returns-clause-all : goal.returns-clause-all
returns-clause-all g c = learnt_all g.X.EventHandler.Reads
