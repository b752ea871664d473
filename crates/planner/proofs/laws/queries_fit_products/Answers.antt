use Rattle.planner.proofs.Fitting.{products}
use Rattle.planner.proofs.laws.queries_fit_products.Goals as goal

pub returns : goal.returns
returns c = products
