use Rattle.key_ranges.proofs.InOrders.{merged_loses_nothing, ordered_loses_nothing}
use Rattle.key_ranges.proofs.left_out.merged_spans_lose_nothing.Goals as goal

pub returns-clause-ordered : goal.returns-clause-ordered
returns-clause-ordered c = ordered_loses_nothing

pub returns-clause-merged : goal.returns-clause-merged
returns-clause-merged c = merged_loses_nothing
