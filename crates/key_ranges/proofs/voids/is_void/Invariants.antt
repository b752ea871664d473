use Rattle.std.proofs.Common.{◌≡◌, drop}
use Rattle.std.specs.List.{list_any}
use Rattle.key_ranges.specs.BoxCode.{box_of}
use Rattle.key_ranges.specs.Boxes.{contradicts_any, is_void}
use Rattle.key_ranges.proofs.voids.is_void.Given as goal

-- those before contradict no other
abbrev pub invariant-loop-bound : goal.invariant-loop-bound
invariant-loop-bound l = is_void (box_of l.bounds) ≡ list_any (contradicts_any (box_of l.bounds)) (box_of (drop l.bound-index l.bounds))
