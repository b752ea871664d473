use Rattle.std.proofs.Common.{Option, subst}
use Rattle.page_tree.specs.Ahead.{IsFoundAt}
use Rattle.page_tree.specs.declared.leaf.CellParts.{CellParts}
use Rattle.page_tree.proofs.tree_walk.found_entry.Goals as goal

pub returns : goal.returns
returns c entry found = subst (λ (o : Option CellParts). IsFoundAt o c.args.cursor.now entry) c.in-Some.is found
