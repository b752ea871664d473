use Rattle.page_roots.proofs.Reaching.{reached_where}
use Rattle.page_roots.proofs.laws.reach_law.Goals as goal

pub returns : goal.returns
returns c = reached_where
