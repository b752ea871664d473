use Rattle.std.proofs.Common.{◌≡◌, take}
use Rattle.select_labels.specs.Unlabelled.{label_names}
use Rattle.select_labels.specs.Views.{viewed_labels}
use Rattle.select_labels.proofs.unlabelled.label_names.Given as goal

abbrev pub invariant-loop-label : goal.invariant-loop-label
invariant-loop-label l = l.names ≡ label_names (viewed_labels (take l.label-index l.labels))
