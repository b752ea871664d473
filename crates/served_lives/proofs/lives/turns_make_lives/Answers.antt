use Rattle.served_lives.proofs.MadeLives.{lives_made}
use Rattle.served_lives.proofs.lives.turns_make_lives.Goals as goal

pub returns : goal.returns
returns g c = lives_made _ _ _ _ g.X.EventHandler.Reads g.S.Map.state g.T.Talk g.C.ServedClients
