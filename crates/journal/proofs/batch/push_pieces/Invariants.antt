use Rattle.std.proofs.Common.{◌≡◌, ◌++◌, ℕ, List, take}
use Rattle.store.specs.Batch.{all_changes}
use Rattle.journal.specs.Changes.{changes_then}
use Rattle.journal.proofs.batch.push_pieces.Given as goal

-- the changes of the pieces before this one are written
abbrev pub invariant-loop-piece : goal.invariant-loop-piece
invariant-loop-piece l = (rest : List ℕ) → l.out.items ++ rest ≡ l.fn.out.items ++ changes_then (all_changes (take l.piece-index l.pieces)) rest
