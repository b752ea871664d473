use Rattle.page_nodes.specs.Map.{is_below}
use Rattle.page_nodes.proofs.cell.is_less.Goals as goal

pub returns : goal.returns
unfolding is_below
returns c = c.comes_before.ensures
