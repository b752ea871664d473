use Rattle.planner.proofs.Fitting.{combinations}
use Rattle.planner.proofs.laws.queries_fit_combinations.Goals as goal

pub returns : goal.returns
returns c = combinations
