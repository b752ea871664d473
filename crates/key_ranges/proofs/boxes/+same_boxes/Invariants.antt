use Rattle.std.proofs.Common.{length}
use Rattle.key_ranges.proofs.boxes.+same_boxes.Given as goal

abbrev pub decreases-same_boxes : goal.decreases-same_boxes
decreases-same_boxes l = length l.first.now
