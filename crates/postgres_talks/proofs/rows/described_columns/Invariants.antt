use Rattle.std.proofs.Common.{◌≡◌, ◌++◌, length, map}
use Rattle.postgres_messages.specs.BackendViews.{viewed_column}
use Rattle.postgres_talks.specs.Rows.{described_columns}
use Rattle.postgres_talks.proofs.rows.described_columns.Given as goal

abbrev pub invariant-loop-columns : goal.invariant-loop-columns
invariant-loop-columns l = map viewed_column l.shown.items ++ described_columns l.formats l.columns ≡ described_columns l.initial.formats l.initial.columns

abbrev pub decreases-loop-columns : goal.decreases-loop-columns
decreases-loop-columns l = length l.columns
