use Rattle.std.proofs.Common.{◌≡◌, ◌+◌, ◌-◌, length}
use Rattle.store.specs.Pieces.{from_place, puts}
use Rattle.store.proofs.pieces.Pieces.step_from.Given as goal

-- nothing was put before this place
abbrev pub invariant-loop-place : goal.invariant-loop-place
invariant-loop-place l = puts (from_place l.place.piece l.place.at l.self.list.items) ≡ puts (from_place l.fn.from.piece l.fn.from.at l.self.list.items)

-- the changes that are left, and the pieces
abbrev pub decreases-loop-place : goal.decreases-loop-place
decreases-loop-place l = length (from_place l.place.piece l.place.at l.self.list.items) + (length l.self.list.items - l.place.piece)
