use Rattle.std.proofs.Common.{◌≡◌}
use Rattle.store.specs.Held.{records_of}
use Rattle.store.proofs.memory.MemStore.release_each.Given as goal

-- the record format and the records are as they were
abbrev pub invariant-loop-change : goal.invariant-loop-change
invariant-loop-change l = record {
  record_format : l.self.record_format ≡ l.fn.self.record_format;
  same : records_of l.self.entries ≡ records_of l.fn.self.entries;
}
