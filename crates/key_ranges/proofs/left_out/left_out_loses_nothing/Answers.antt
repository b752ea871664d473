use Rattle.key_ranges.proofs.LeftOut.{left_out_loses_nothing}
use Rattle.key_ranges.proofs.left_out.left_out_loses_nothing.Goals as goal

pub returns : goal.returns
returns c = left_out_loses_nothing
