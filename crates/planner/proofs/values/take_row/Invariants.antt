use Rattle.std.proofs.Common.{◌≡◌, take, drop}
use Rattle.std.specs.Vec.Iter.{into_iter_items}
use Rattle.planner.proofs.values.take_row.Given as goal

-- those that were taken, and those that are left
abbrev pub invariant-loop-at : goal.invariant-loop-at
invariant-loop-at l = (l.row ≡ take l._at (into_iter_items l.initial.values)) × (into_iter_items l.values ≡ drop l._at (into_iter_items l.initial.values))
