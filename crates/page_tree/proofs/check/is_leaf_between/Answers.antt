use Rattle.std.proofs.Common.{[], subst}
use Rattle.page_nodes.specs.declared.cell.NodeKind.{NodeKind}
use Rattle.page_nodes.specs.declared.cell.NodeKind.TheVariants.{Leaf}
use Rattle.page_nodes.specs.Map.{lent_bytes}
use Rattle.page_nodes.specs.Node.{IsWhole}
use Rattle.page_tree.proofs.CheckLeaves.{leaf_between, no_whole_leaf}
use Rattle.page_tree.proofs.check.is_leaf_between.Goals as goal

pub returns-in_default : goal.returns-in_default
returns-in_default c = no_whole_leaf c.args.bytes.now c.args.low.now (lent_bytes c.args.high) (c.whole_node.ensures.none c.in_default.is Leaf)

pub returns-in-Leaf : goal.returns-in-Leaf
returns-in-Leaf c =
    let keys = c.in-Some.ensures.keys in
    leaf_between c.args.bytes.now c.args.low.now (lent_bytes c.args.high) c.in-Some.node.keys c.are_between.result (subst (λ (k : NodeKind). IsWhole c.args.bytes.now k) c.in-Leaf.is c.in-Some.ensures.node)
    (λ es node. keys [] es (rw c.in-Leaf.is node)) c.are_between.ensures
