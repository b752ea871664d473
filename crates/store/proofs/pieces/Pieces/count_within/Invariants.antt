use Rattle.std.proofs.Common.{◌≡◌, ◌+◌, ◌-◌, ◌^◌, ◌≤◌, length, min}
use Rattle.store.specs.Pieces.{from_place, puts_within}
use Rattle.store.specs.Walks.{count_of}
use Rattle.store.proofs.pieces.Pieces.count_within.Given as goal

-- what is counted and what is left are all
abbrev pub invariant-loop-place : goal.invariant-loop-place
invariant-loop-place l = record {
  all : min (l.count + length (puts_within l.stop (from_place l.place.piece l.place.at l.self.list.items))) (2 ^ 64 - 1) ≡ count_of (puts_within l.stop (from_place l.fn.from.piece l.fn.from.at l.self.list.items));
  fits : l.count ≤ 2 ^ 64 - 1;
}

-- the pieces that are left
abbrev pub decreases-loop-place : goal.decreases-loop-place
decreases-loop-place l = l.whole - l.place.piece
