use Rattle.std.proofs.Common.{◌≡◌, take}
use Rattle.abstract_database.specs.Lists.{drop_where}
use Rattle.abstract_database.specs.Privileges.{is_named_in}
use Rattle.grant_graph.proofs.marking.without.Given as goal

abbrev pub invariant-loop-descriptor : goal.invariant-loop-descriptor
invariant-loop-descriptor l = l.left.items ≡ drop_where (is_named_in l.named) (take l.descriptor-index l.descriptors)
