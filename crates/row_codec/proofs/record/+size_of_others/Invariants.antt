use Rattle.std.proofs.Common.{length}
use Rattle.row_codec.proofs.record.+size_of_others.Given as goal

abbrev pub decreases-size_of_others : goal.decreases-size_of_others
decreases-size_of_others l = length l.row.now
