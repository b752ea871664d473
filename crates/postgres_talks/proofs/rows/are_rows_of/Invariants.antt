use Rattle.std.proofs.Common.{◌≡◌, length}
use Rattle.postgres_talks.specs.Rows.{are_rows_of}
use Rattle.postgres_talks.proofs.rows.are_rows_of.Given as goal

abbrev pub invariant-loop-rows : goal.invariant-loop-rows
invariant-loop-rows l = are_rows_of l.columns l.rows ≡ are_rows_of l.columns l.initial.rows

abbrev pub decreases-loop-rows : goal.decreases-loop-rows
decreases-loop-rows l = length l.rows
