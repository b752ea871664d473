use Rattle.std.proofs.Common.{length}
use Rattle.statement_explanations.proofs.key_values.+push_cells.Given as goal

abbrev pub decreases-push_cells : goal.decreases-push_cells
decreases-push_cells l = length l.key.now
