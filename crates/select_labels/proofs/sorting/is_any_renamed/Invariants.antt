use Rattle.std.proofs.Common.{◌≡◌, length}
use Rattle.std.specs.List.{list_any}
use Rattle.select_labels.specs.Sorting.{renames}
use Rattle.select_labels.specs.Views.{viewed_labels}
use Rattle.select_labels.proofs.sorting.is_any_renamed.Given as goal

abbrev pub invariant-loop-labels : goal.invariant-loop-labels
invariant-loop-labels l = list_any (renames l.name) (viewed_labels l.labels) ≡ list_any (renames l.name) (viewed_labels l.initial.labels)

abbrev pub decreases-loop-labels : goal.decreases-loop-labels
decreases-loop-labels l = length l.labels
