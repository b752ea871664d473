use Rattle.gathering.proofs.KeyOrder.{key_order_is_sorted}
use Rattle.gathering.proofs.laws.key_order_is_sorted.Goals as goal

pub returns : goal.returns
returns c = key_order_is_sorted
