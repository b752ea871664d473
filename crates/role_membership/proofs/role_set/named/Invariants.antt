use Rattle.std.proofs.Common.{◌≡◌, false, take}
use Rattle.abstract_database.specs.Lists.{TheName, has_name, has_double}
use Rattle.role_membership.proofs.role_set.named.Given as goal

abbrev pub invariant-loop-name : goal.invariant-loop-name
invariant-loop-name l = record {
  test : (s : TheName) → has_name s l.set ≡ has_name s (take l.name-index l.names);
  distinct : has_double l.set ≡ false;
}
