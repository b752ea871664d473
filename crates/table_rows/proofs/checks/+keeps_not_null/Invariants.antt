use Rattle.std.proofs.Common.{length}
use Rattle.table_rows.proofs.checks.+keeps_not_null.Given as goal

abbrev pub decreases-keeps_not_null : goal.decreases-keeps_not_null
decreases-keeps_not_null l = length l.row.now
