use Rattle.std.proofs.Common.{◌≡◌, ◌++◌, drop, map}
use Rattle.std.specs.List.{AllByRecursion}
use Rattle.stored_database.specs.RecordFormat.{descriptor_record}
use Rattle.catalogue_changes.specs.Entries.{HaveRecordSizes, IsStorableDescriptor}
use Rattle.catalogue_changes.proofs.entries.descriptor_entries.Given as goal

-- the records to come are left to write
abbrev pub invariant-loop-descriptor : goal.invariant-loop-descriptor
invariant-loop-descriptor l = record {
  written : l.entries.items ++ map (descriptor_record l.table) (drop l.descriptor-index l.descriptors) ≡ map (descriptor_record l.table) l.descriptors;
  sizes : HaveRecordSizes l.entries.items;
  sound : AllByRecursion (IsStorableDescriptor l.table) l.descriptors → AllByRecursion (IsStorableDescriptor l.table) (drop l.descriptor-index l.descriptors);
}
