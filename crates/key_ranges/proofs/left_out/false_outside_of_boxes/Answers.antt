use Rattle.key_ranges.proofs.OutsideBoxes.{false_outside}
use Rattle.key_ranges.proofs.left_out.false_outside_of_boxes.Goals as goal

pub returns : goal.returns
returns c layout table users roles front cell row term is are_roles behind fits beside = false_outside layout is table users roles are_roles front cell behind row fits beside term
