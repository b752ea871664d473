use Rattle.std.proofs.Common.{◌≡◌, length}
use Rattle.postgres_talks.specs.Rows.{is_row_of}
use Rattle.postgres_talks.proofs.rows.is_row_of.Given as goal

abbrev pub invariant-loop-columns : goal.invariant-loop-columns
invariant-loop-columns l = is_row_of l.columns l.row ≡ is_row_of l.initial.columns l.initial.row

abbrev pub decreases-loop-columns : goal.decreases-loop-columns
decreases-loop-columns l = length l.columns
