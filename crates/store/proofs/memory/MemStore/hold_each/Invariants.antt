use Rattle.std.proofs.Common.{◌≡◌, ℕ, List, IsSome, take}
use Rattle.store.specs.Records.{lookup}
use Rattle.store.specs.InPieces.{changes_of}
use Rattle.store.specs.Held.{AreHeld, records_of}
use Rattle.store.proofs.memory.MemStore.hold_each.Given as goal

-- the changes before this one have entries, and so have all that had
abbrev pub invariant-loop-change : goal.invariant-loop-change
invariant-loop-change l = record {
  record_format : l.self.record_format ≡ l.fn.self.record_format;
  same : records_of l.self.entries ≡ records_of l.fn.self.entries;
  held : AreHeld (take l.change-index l.changes) (changes_of l.self.entries);
  kept : (k : List ℕ) → IsSome (lookup k (changes_of l.fn.self.entries)) → IsSome (lookup k (changes_of l.self.entries));
}
