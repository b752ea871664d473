use Rattle.std.proofs.Common.{◌≡◌, length}
use Rattle.store.specs.Records.{IsOrdered, applied}
use Rattle.store.specs.InPieces.{changes_of}
use Rattle.store.specs.Held.{AreHeld, records_of}
use Rattle.store.proofs.memory.MemStore.make_all.Given as goal

-- the changes that are left make what all of them do, and have entries
abbrev pub invariant-loop-change : goal.invariant-loop-change
invariant-loop-change l = record {
  record_format : l.self.record_format ≡ l.fn.self.record_format;
  whole : applied l.batch (records_of l.self.entries) ≡ applied l.fn.batch (records_of l.fn.self.entries);
  rising : IsOrdered l.batch;
  held : AreHeld l.batch (changes_of l.self.entries);
}

abbrev pub decreases-loop-change : goal.decreases-loop-change
decreases-loop-change l = length l.batch
