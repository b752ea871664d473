use Rattle.select_labels.proofs.Finding.{leaves_out}
use Rattle.select_labels.proofs.laws.labels_alone_are_left_out.Goals as goal

pub returns : goal.returns
returns c = leaves_out
