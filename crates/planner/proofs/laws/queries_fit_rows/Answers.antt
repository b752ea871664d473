use Rattle.planner.proofs.Fitting.{rows}
use Rattle.planner.proofs.laws.queries_fit_rows.Goals as goal

pub returns : goal.returns
returns c = rows
