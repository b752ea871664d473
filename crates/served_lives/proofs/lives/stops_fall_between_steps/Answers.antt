use Rattle.served_lives.proofs.MadeLives.{stops_between}
use Rattle.served_lives.proofs.lives.stops_fall_between_steps.Goals as goal

pub returns : goal.returns
returns g c = stops_between _ _ g.X.EventHandler.Reads g.S.Map.state
