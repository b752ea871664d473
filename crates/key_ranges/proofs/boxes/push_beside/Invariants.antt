use Rattle.std.proofs.Common.{◌≡◌, ◌++◌, drop}
use Rattle.key_ranges.specs.Boxes.{beside}
use Rattle.key_ranges.proofs.boxes.push_beside.Given as goal

-- what is left to be pushed
abbrev pub invariant-loop-other : goal.invariant-loop-other
invariant-loop-other l = l.fn.boxes ++ beside l.one l.others ≡ l.boxes ++ beside l.one (drop l.other-index l.others)
