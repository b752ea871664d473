use Rattle.std.proofs.Common.{◌≡◌, take}
use Rattle.postgres_talks.proofs.rows.copied_columns.Given as goal

abbrev pub invariant-loop-column : goal.invariant-loop-column
invariant-loop-column l = l.copy ≡ take l.column-index l.columns
