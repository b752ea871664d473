use Rattle.std.proofs.Common.{length}
use Rattle.key_ranges.proofs.box_search.BoxSearch.+boxes_and_conditions.Given as goal

abbrev pub decreases-boxes_and_conditions : goal.decreases-boxes_and_conditions
decreases-boxes_and_conditions l = length l.conditions.now
