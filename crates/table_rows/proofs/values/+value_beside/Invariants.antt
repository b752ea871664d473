use Rattle.std.proofs.Common.{length}
use Rattle.table_rows.proofs.values.+value_beside.Given as goal

abbrev pub decreases-value_beside : goal.decreases-value_beside
decreases-value_beside l = length l.columns.now
