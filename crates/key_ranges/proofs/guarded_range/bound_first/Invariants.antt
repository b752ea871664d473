use Rattle.std.proofs.Common.{◌≡◌, drop}
use Rattle.std.specs.List.{list_all}
use Rattle.key_ranges.specs.TableRanges.{bounds_first}
use Rattle.key_ranges.proofs.guarded_range.bound_first.Given as goal

-- it is said of those before
abbrev pub invariant-loop-one : goal.invariant-loop-one
invariant-loop-one l = list_all (bounds_first l.columns) l.boxes ≡ list_all (bounds_first l.columns) (drop l.one-index l.boxes)
