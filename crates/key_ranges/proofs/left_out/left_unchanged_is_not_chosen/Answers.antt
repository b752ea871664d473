use Rattle.key_ranges.proofs.LeftOut.{left_unchanged_is_not_chosen, left_unchanged_is_not_met}
use Rattle.key_ranges.proofs.left_out.left_unchanged_is_not_chosen.Goals as goal

pub returns : goal.returns
returns c = record { chosen = left_unchanged_is_not_chosen; met = left_unchanged_is_not_met }
