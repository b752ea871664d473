use Rattle.std.proofs.Common.{◌≡◌, ◌++◌, drop, map}
use Rattle.std.specs.List.{AllByRecursion}
use Rattle.stored_database.specs.RecordFormat.{policy_record}
use Rattle.catalogue.specs.Policies.{policies_in}
use Rattle.catalogue_changes.specs.Entries.{HaveRecordSizes, IsStorable}
use Rattle.catalogue_changes.proofs.entries.policy_entries.Given as goal

-- the records to come are left to write
abbrev pub invariant-loop-policy : goal.invariant-loop-policy
invariant-loop-policy l = record {
  written : l.entries.items ++ map (policy_record l.table) (policies_in (drop l.policy-index l.policies)) ≡ map (policy_record l.table) (policies_in l.policies);
  sizes : HaveRecordSizes l.entries.items;
  sound : AllByRecursion (IsStorable l.table) (policies_in l.policies) → AllByRecursion (IsStorable l.table) (policies_in (drop l.policy-index l.policies));
}
