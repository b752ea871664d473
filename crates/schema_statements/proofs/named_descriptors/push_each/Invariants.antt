use Rattle.std.proofs.Common.{◌≡◌, ◌++◌, map, take}
use Rattle.schema_statements.specs.NamedDescriptors.{descriptor_of}
use Rattle.schema_statements.proofs.named_descriptors.push_each.Given as goal

abbrev pub invariant-loop-grantee : goal.invariant-loop-grantee
invariant-loop-grantee l = l.list.items ≡ l.initial.list.items ++ map (descriptor_of l.target.table.now l.target.grantable l.privilege l.by) (take l.grantee-index l.target.grantees.now)
