use Rattle.std.proofs.Common.{◌≡◌, false, bytes_eq, take}
use Rattle.std.specs.List.{list_any}
use Rattle.abstract_database.specs.Privileges.{grant_option_holders}
use Rattle.grant_graph.proofs.acting.holds_option.Given as goal

abbrev pub invariant-loop-descriptor : goal.invariant-loop-descriptor
invariant-loop-descriptor l = list_any (bytes_eq l.role) (grant_option_holders (take l.descriptor-index l.descriptors) l.table l.privilege) ≡ false
