use Rattle.std.proofs.Common.{◌≡◌, ◌≤◌, length, drop, filter}
use Rattle.std.specs.Option.{option_map}
use Rattle.abstract_database.specs.Lists.{has_name, least}
use Rattle.abstract_database.specs.Privileges.{grant_option_holders}
use Rattle.grant_graph.specs.Keys.{now_of}
use Rattle.grant_graph.proofs.acting.least_holder.Given as goal

abbrev pub invariant-loop-left : goal.invariant-loop-left
invariant-loop-left l = record {
  inside : l.left ≤ length l.descriptors;
  best : option_map now_of l.best ≡ least (filter (λ name. has_name name l.roles) (grant_option_holders (drop l.left l.descriptors) l.table l.privilege));
}

abbrev pub decreases-loop-left : goal.decreases-loop-left
decreases-loop-left l = l.left
