use Rattle.page_tree.proofs.Represented.{leaf_is_tree}
use Rattle.page_tree.proofs.laws.leaf_alone.Goals as goal

pub returns : goal.returns
returns c = leaf_is_tree
