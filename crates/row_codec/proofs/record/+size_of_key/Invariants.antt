use Rattle.std.proofs.Common.{length}
use Rattle.row_codec.proofs.record.+size_of_key.Given as goal

abbrev pub decreases-size_of_key : goal.decreases-size_of_key
decreases-size_of_key l = length l.key.now
