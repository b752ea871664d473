use Rattle.std.proofs.Common.{◌≡◌}
use Rattle.store.specs.Held.{records_of}
use Rattle.store.proofs.memory.MemStore.release_all.Given as goal

-- the record format and the records are as they were
abbrev pub invariant-loop-piece : goal.invariant-loop-piece
invariant-loop-piece l = record {
  record_format : l.self.record_format ≡ l.fn.self.record_format;
  same : records_of l.self.entries ≡ records_of l.fn.self.entries;
}
