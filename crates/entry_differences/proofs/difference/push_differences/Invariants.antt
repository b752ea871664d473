use Rattle.std.proofs.Common.{◌≡◌, ◌+◌, length}
use Rattle.store.specs.Records.{Records, IsOrdered, applied}
use Rattle.entry_differences.specs.Differences.{differences, applied_in_turn}
use Rattle.entry_differences.specs.Additions.{HaveRecordSizes}
use Rattle.entry_differences.proofs.difference.push_differences.Given as goal

-- what differs between the records to come is left to add
abbrev pub invariant-loop-removed : goal.invariant-loop-removed
invariant-loop-removed l = record {
  added : (records : Records) → IsOrdered records
      → applied_in_turn (differences l.fn.old l.fn.new) (applied l.fn.out records) ≡ applied_in_turn (differences l.old l.new) (applied l.out records);
  old_sizes : HaveRecordSizes l.old;
  new_sizes : HaveRecordSizes l.new;
}

abbrev pub decreases-loop-removed : goal.decreases-loop-removed
decreases-loop-removed l = length l.old + length l.new
