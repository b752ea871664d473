use Rattle.key_ranges.proofs.Hulls.{around_loses_nothing}
use Rattle.key_ranges.proofs.left_out.around_loses_nothing.Goals as goal

pub returns : goal.returns
returns c row boxes inside = around_loses_nothing row boxes inside
