use Rattle.std.proofs.Common.{◌≡◌, ◌++◌, length}
use Rattle.postgres_talks.specs.Rows.{values_in}
use Rattle.postgres_talks.proofs.rows.values_in.Given as goal

abbrev pub invariant-loop-row : goal.invariant-loop-row
invariant-loop-row l = l.values.items ++ values_in l.formats l.row ≡ values_in l.initial.formats l.initial.row

abbrev pub decreases-loop-row : goal.decreases-loop-row
decreases-loop-row l = length l.row
