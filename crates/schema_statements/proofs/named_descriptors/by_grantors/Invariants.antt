use Rattle.std.proofs.Common.{◌≡◌, flat_map, take}
use Rattle.schema_statements.specs.PrivilegeUnits.{descriptors_for}
use Rattle.schema_statements.proofs.named_descriptors.by_grantors.Given as goal

abbrev pub invariant-loop-named : goal.invariant-loop-named
invariant-loop-named l = l.list.items ≡ flat_map (descriptors_for l.target.table.now l.target.grantees.now l.target.grantable) (take l.named-index l.all)
