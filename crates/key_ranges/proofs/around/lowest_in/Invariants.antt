use Rattle.std.proofs.Common.{◌≡◌, drop}
use Rattle.key_ranges.specs.BoxCode.{box_of}
use Rattle.key_ranges.specs.Boxes.{lowest_in}
use Rattle.key_ranges.proofs.around.lowest_in.Given as goal

-- those before say nothing of it
abbrev pub invariant-loop-bound : goal.invariant-loop-bound
invariant-loop-bound l = lowest_in l.column (box_of l.bounds) ≡ lowest_in l.column (box_of (drop l.bound-index l.bounds))
