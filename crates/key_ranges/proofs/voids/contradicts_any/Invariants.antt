use Rattle.std.proofs.Common.{◌≡◌, drop}
use Rattle.key_ranges.specs.BoxCode.{bound_of, box_of}
use Rattle.key_ranges.specs.Boxes.{contradicts_any}
use Rattle.key_ranges.proofs.voids.contradicts_any.Given as goal

-- those before are not contradicted
abbrev pub invariant-loop-other : goal.invariant-loop-other
invariant-loop-other l = contradicts_any (box_of l.bounds) (bound_of l.bound) ≡ contradicts_any (box_of (drop l.other-index l.bounds)) (bound_of l.bound)
