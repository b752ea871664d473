use Rattle.std.proofs.Common.{◌≡◌, length}
use Rattle.std.specs.Prelude.{is_some}
use Rattle.std.specs.List.{list_any}
use Rattle.select_labels.specs.Views.{viewed_labels}
use Rattle.select_labels.proofs.unlabelled.has_label.Given as goal

abbrev pub invariant-loop-labels : goal.invariant-loop-labels
invariant-loop-labels l = list_any is_some (viewed_labels l.labels) ≡ list_any is_some (viewed_labels l.initial.labels)

abbrev pub decreases-loop-labels : goal.decreases-loop-labels
decreases-loop-labels l = length l.labels
