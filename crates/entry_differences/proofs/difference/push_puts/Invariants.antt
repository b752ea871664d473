use Rattle.std.proofs.Common.{◌≡◌, drop, map}
use Rattle.store.specs.Records.{Records, IsOrdered, applied}
use Rattle.entry_differences.specs.Differences.{put_of, applied_in_turn}
use Rattle.entry_differences.proofs.difference.push_puts.Given as goal

-- the records to come are left to put
abbrev pub invariant-loop-entry : goal.invariant-loop-entry
invariant-loop-entry l = (records : Records) → IsOrdered records
    → applied_in_turn (map put_of l.entries) (applied l.fn.out records) ≡ applied_in_turn (map put_of (drop l.entry-index l.entries)) (applied l.out records)
