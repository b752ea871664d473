use Rattle.std.proofs.Common.{length}
use Rattle.journal.proofs.Rising.{ReadsSoFar}
use Rattle.journal.proofs.batch.read_batch.Given as goal

-- the changes before this one are read
abbrev pub invariant-loop-key : goal.invariant-loop-key
invariant-loop-key l = ReadsSoFar l.bytes l.batch l.last l.rest

abbrev pub decreases-loop-key : goal.decreases-loop-key
decreases-loop-key l = length l.rest
