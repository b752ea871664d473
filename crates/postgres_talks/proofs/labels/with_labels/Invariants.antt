use Rattle.std.proofs.Common.{◌≡◌, ◌++◌, length}
use Rattle.postgres_talks.specs.Labels.{with_labels}
use Rattle.postgres_talks.proofs.labels.with_labels.Given as goal

abbrev pub invariant-loop-columns : goal.invariant-loop-columns
invariant-loop-columns l = l.labelled ++ with_labels l.labels l.columns ≡ with_labels l.initial.labels l.initial.columns

abbrev pub decreases-loop-columns : goal.decreases-loop-columns
decreases-loop-columns l = length l.columns
