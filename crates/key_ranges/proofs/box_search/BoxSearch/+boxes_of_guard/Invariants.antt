use Rattle.std.proofs.Common.{length}
use Rattle.key_ranges.proofs.box_search.BoxSearch.+boxes_of_guard.Given as goal

abbrev pub decreases-boxes_of_guard : goal.decreases-boxes_of_guard
decreases-boxes_of_guard l = length l.formulas.now
