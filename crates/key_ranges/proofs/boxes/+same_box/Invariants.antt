use Rattle.std.proofs.Common.{length}
use Rattle.key_ranges.proofs.boxes.+same_box.Given as goal

abbrev pub decreases-same_box : goal.decreases-same_box
decreases-same_box l = length l.first.now
