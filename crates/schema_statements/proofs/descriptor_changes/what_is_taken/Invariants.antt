use Rattle.std.proofs.Common.{◌≡◌, ◌++◌, drop}
use Rattle.schema_statements.specs.DescriptorChanges.{gone_of, cleared_of}
use Rattle.schema_statements.proofs.descriptor_changes.what_is_taken.Given as goal

abbrev pub invariant-loop-index : goal.invariant-loop-index
invariant-loop-index l = record {
  removed : l.taken.removed.items ++ gone_of (drop l.index l.taking.staying.items) (drop l.index l.descriptors) ≡ gone_of l.taking.staying.items l.descriptors;
  added : l.taken.added.items ++ cleared_of l.option_alone (drop l.index l.taking.named.items) (drop l.index l.taking.staying.items) (drop l.index l.descriptors)
      ≡ cleared_of l.option_alone l.taking.named.items l.taking.staying.items l.descriptors;
}
