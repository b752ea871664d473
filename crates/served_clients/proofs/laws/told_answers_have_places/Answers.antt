use Rattle.served_clients.proofs.Placing.{placed}
use Rattle.served_clients.proofs.laws.told_answers_have_places.Goals as goal

pub returns : goal.returns
returns g c = λ old before us new after w took sound here told moment place is.
    placed g.X.EventHandler.Reads g.S.Map.state g.T.Talk g.C.ServedClients old before us new after w took sound here told moment place is
