use Rattle.std.proofs.Common.{take}
use Rattle.journal_store.specs.Opening.{AreOf}
use Rattle.journal_store.proofs.opening.read_batches.Given as goal

-- the batches of the records before this one are read
abbrev pub invariant-loop-record : goal.invariant-loop-record
invariant-loop-record l = AreOf (take l.record-index l.records) l.waiting
