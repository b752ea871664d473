use Rattle.std.proofs.Common.{◌≡◌, ◌+◌, take}
use Rattle.journal_store.specs.Room.{changes_in}
use Rattle.journal_store.proofs.room.left_after.Given as goal

-- the changes of the pieces so far are taken off
abbrev pub invariant-loop-piece : goal.invariant-loop-piece
invariant-loop-piece l = l.left + changes_in (take l.piece-index l.pieces) ≡ l.fn.most
