use Rattle.std.proofs.Common.{length}
use Rattle.executor.proofs.known_columns.+push_known.Given as goal

abbrev pub decreases-push_known : goal.decreases-push_known
decreases-push_known l = length l.key.now
