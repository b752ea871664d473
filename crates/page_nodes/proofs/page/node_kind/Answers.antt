use Rattle.std.proofs.Common.{refl}
use Rattle.page_nodes.proofs.page.node_kind.Goals as goal

pub returns-in_err-node-clause-none : goal.returns-in_err-node-clause-none
returns-in_err-node-clause-none c none kind whole = c.in_err-node.ensures.none refl kind whole
