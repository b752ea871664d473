use Rattle.std.proofs.Common.{length}
use Rattle.key_ranges.proofs.box_ranges.+tightest_bound.Given as goal

abbrev pub decreases-tightest_bound : goal.decreases-tightest_bound
decreases-tightest_bound l = length l.bounds.now
