use Rattle.std.proofs.Common.{length}
use Rattle.key_ranges.proofs.box_search.BoxSearch.+boxes_and_each.Given as goal

abbrev pub decreases-boxes_and_each : goal.decreases-boxes_and_each
decreases-boxes_and_each l = length l.conditions.now
