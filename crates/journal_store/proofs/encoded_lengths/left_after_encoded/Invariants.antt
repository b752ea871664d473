use Rattle.std.proofs.Common.{◌≡◌, ◌+◌, drop}
use Rattle.store.specs.Batch.{all_changes}
use Rattle.journal_store.specs.Encoded.{encoded_length}
use Rattle.journal_store.proofs.encoded_lengths.left_after_encoded.Given as goal

-- the bytes of the pieces so far are taken off
abbrev pub invariant-loop-piece : goal.invariant-loop-piece
invariant-loop-piece l = l.left + encoded_length (all_changes l.pieces) ≡ l.fn.most + encoded_length (all_changes (drop l.piece-index l.pieces))
