use Rattle.planner.proofs.Fitting.{updates}
use Rattle.planner.proofs.laws.updates_fit.Goals as goal

pub returns : goal.returns
returns c = updates
