use Rattle.std.proofs.Common.{length}
use Rattle.key_ranges.proofs.guarded_range.+spans_by_start.Given as goal

abbrev pub decreases-spans_by_start : goal.decreases-spans_by_start
decreases-spans_by_start l = length l.boxes.now
