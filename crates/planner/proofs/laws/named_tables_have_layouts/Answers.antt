use Rattle.planner.proofs.Fitting.{layouts}
use Rattle.planner.proofs.laws.named_tables_have_layouts.Goals as goal

pub returns : goal.returns
returns c = layouts
