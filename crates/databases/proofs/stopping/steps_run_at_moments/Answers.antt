use Rattle.databases.proofs.Living.{steps_run}
use Rattle.databases.proofs.stopping.steps_run_at_moments.Goals as goal

pub returns : goal.returns
returns g c = λ first last events told moments w steps sound here. steps_run g.X.EventHandler.Reads g.S.Map.state first last events told moments w steps sound here
