use Rattle.std.proofs.Common.{◌≡◌, take}
use Rattle.store.proofs.behind.copy_pieces.Given as goal

-- the pieces before this one are copied
abbrev pub invariant-loop-piece : goal.invariant-loop-piece
invariant-loop-piece l = l.copies.items ≡ take l.piece-index l.pieces
