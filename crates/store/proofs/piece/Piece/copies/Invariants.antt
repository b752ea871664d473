use Rattle.std.proofs.Common.{◌≡◌, take}
use Rattle.store.proofs.piece.Piece.copies.Given as goal

-- the changes before this one are copied
abbrev pub invariant-loop-change : goal.invariant-loop-change
invariant-loop-change l = l.copies.items ≡ take l.change-index l.change-items
