use Rattle.std.proofs.Common.{◌≡◌, length}
use Rattle.postgres_talks.specs.Rows.{are_same_columns}
use Rattle.postgres_talks.proofs.rows.are_same_columns.Given as goal

abbrev pub invariant-loop-columns : goal.invariant-loop-columns
invariant-loop-columns l = are_same_columns l.columns l.others ≡ are_same_columns l.initial.columns l.initial.others

abbrev pub decreases-loop-columns : goal.decreases-loop-columns
decreases-loop-columns l = length l.columns
