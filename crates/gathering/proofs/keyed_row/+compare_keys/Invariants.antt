use Rattle.std.proofs.Common.{length}
use Rattle.gathering.proofs.keyed_row.+compare_keys.Given as goal

abbrev pub decreases-compare_keys : goal.decreases-compare_keys
decreases-compare_keys g l = length l.keys.now
