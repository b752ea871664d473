use Rattle.std.proofs.Common.{length}
use Rattle.key_ranges.proofs.boxes.KeyBox.+range_after.Given as goal

abbrev pub decreases-range_after : goal.decreases-range_after
decreases-range_after l = length l.columns.now
