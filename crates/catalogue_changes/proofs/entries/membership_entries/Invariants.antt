use Rattle.std.proofs.Common.{◌≡◌, ◌++◌, drop, map}
use Rattle.stored_database.specs.RecordFormat.{membership_record}
use Rattle.catalogue_changes.specs.Entries.{HaveRecordSizes}
use Rattle.catalogue_changes.proofs.entries.membership_entries.Given as goal

-- the records to come are left to write
abbrev pub invariant-loop-membership : goal.invariant-loop-membership
invariant-loop-membership l = record {
  written : l.entries.items ++ map membership_record (drop l.membership-index l.memberships) ≡ map membership_record l.memberships;
  sizes : HaveRecordSizes l.entries.items;
}
