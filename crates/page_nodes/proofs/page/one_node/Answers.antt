use Rattle.page_nodes.proofs.Whole.{kind_same, first_same, node_same}
use Rattle.page_nodes.proofs.page.one_node.Goals as goal

pub returns-clause-kind : goal.returns-clause-kind
returns-clause-kind c bytes kind other first others cells ds n m = kind_same kind other bytes first others cells ds n m

pub returns-clause-first : goal.returns-clause-first
returns-clause-first c bytes kind first others cells ds n m = first_same kind bytes first others cells ds n m

pub returns-clause-cells : goal.returns-clause-cells
returns-clause-cells c bytes kind first others cells ds n m = node_same kind bytes first others cells ds n m
