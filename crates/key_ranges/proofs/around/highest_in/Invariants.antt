use Rattle.std.proofs.Common.{◌≡◌, drop}
use Rattle.key_ranges.specs.BoxCode.{box_of}
use Rattle.key_ranges.specs.Boxes.{highest_in}
use Rattle.key_ranges.proofs.around.highest_in.Given as goal

-- those before say nothing of it
abbrev pub invariant-loop-bound : goal.invariant-loop-bound
invariant-loop-bound l = highest_in l.column (box_of l.bounds) ≡ highest_in l.column (box_of (drop l.bound-index l.bounds))
