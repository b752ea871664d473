use Rattle.std.proofs.Common.{◌≡◌, drop}
use Rattle.key_ranges.specs.TableRanges.{have_one_box}
use Rattle.key_ranges.proofs.guarded_range.have_one_box.Given as goal

-- it is said of those before
abbrev pub invariant-loop-condition : goal.invariant-loop-condition
invariant-loop-condition l = have_one_box l.conditions ≡ have_one_box (drop l.condition-index l.conditions)
