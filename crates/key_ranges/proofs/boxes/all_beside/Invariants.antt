use Rattle.std.proofs.Common.{◌≡◌, ◌++◌, drop}
use Rattle.key_ranges.specs.Boxes.{all_beside}
use Rattle.key_ranges.proofs.boxes.all_beside.Given as goal

-- what is left to be pushed
abbrev pub invariant-loop-one : goal.invariant-loop-one
invariant-loop-one l = all_beside l.first l.second ≡ l.both ++ all_beside (drop l.one-index l.first) l.second
