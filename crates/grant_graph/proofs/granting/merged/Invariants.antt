use Rattle.std.proofs.Common.{◌≡◌, ◌+◌, ◌++◌, length}
use Rattle.abstract_database.specs.Lists.{Rising}
use Rattle.abstract_database.specs.Database.{descriptor_cmp}
use Rattle.abstract_database.specs.Privileges.{with_descriptors}
use Rattle.grant_graph.proofs.granting.merged.Given as goal

abbrev pub invariant-loop-merged : goal.invariant-loop-merged
invariant-loop-merged l = record {
  rising : Rising descriptor_cmp l.new;
  list : with_descriptors l.granted l.descriptors ≡ l.merged.items ++ with_descriptors l.new l.old;
}

abbrev pub decreases-loop-merged : goal.decreases-loop-merged
decreases-loop-merged l = length l.old + length l.new
