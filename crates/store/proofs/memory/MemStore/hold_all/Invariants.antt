use Rattle.std.proofs.Common.{◌≡◌, take}
use Rattle.store.specs.Batch.{all_changes}
use Rattle.store.specs.InPieces.{changes_of}
use Rattle.store.specs.Held.{AreHeld, records_of}
use Rattle.store.proofs.memory.MemStore.hold_all.Given as goal

-- the changes of the pieces before this one have entries
abbrev pub invariant-loop-piece : goal.invariant-loop-piece
invariant-loop-piece l = record {
  record_format : l.self.record_format ≡ l.fn.self.record_format;
  same : records_of l.self.entries ≡ records_of l.fn.self.entries;
  held : AreHeld (all_changes (take l.piece-index l.pieces)) (changes_of l.self.entries);
}
