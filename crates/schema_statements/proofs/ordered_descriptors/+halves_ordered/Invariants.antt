use Rattle.std.proofs.Common.{length}
use Rattle.schema_statements.proofs.ordered_descriptors.+halves_ordered.Given as goal

abbrev pub decreases-halves_ordered : goal.decreases-halves_ordered
decreases-halves_ordered l = length l.list.now
