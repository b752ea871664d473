use Rattle.served_clients.proofs.Stepping.{turns}
use Rattle.served_clients.proofs.laws.turns_are_steps.Goals as goal

pub returns : goal.returns
returns g c = λ old before us new after took. turns g.X.EventHandler.Reads g.S.Map.state g.T.Talk g.C.ServedClients old before us new after took
