use Rattle.std.proofs.Common.{◌≡◌, ◌++◌}
use Rattle.std.specs.Vec.Iter.{into_iter_items}
use Rattle.schema_statements.specs.DescriptorChanges.{come_of}
use Rattle.schema_statements.proofs.descriptor_changes.coming.Given as goal

abbrev pub invariant-loop-descriptor : goal.invariant-loop-descriptor
invariant-loop-descriptor l = l.added.items ++ come_of l.table.descriptors (into_iter_items l.descriptor-iterator) ≡ come_of l.table.descriptors l.fn.granted.items
