use Rattle.planner.proofs.Fitting.{inserts}
use Rattle.planner.proofs.laws.inserts_fit.Goals as goal

pub returns : goal.returns
returns c = inserts
