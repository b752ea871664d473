use Rattle.std.proofs.Common.{◌≡◌, ◌+◌, drop}
use Rattle.journal_store.specs.Encoded.{encoded_length}
use Rattle.journal_store.proofs.encoded_lengths.left_after_changes.Given as goal

-- the bytes of the changes so far are taken off
abbrev pub invariant-loop-change : goal.invariant-loop-change
invariant-loop-change l = l.left + encoded_length l.changes ≡ l.fn.most + encoded_length (drop l.change-index l.changes)
