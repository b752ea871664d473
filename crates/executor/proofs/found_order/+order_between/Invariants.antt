use Rattle.std.proofs.Common.{length}
use Rattle.executor.proofs.found_order.+order_between.Given as goal

abbrev pub decreases-order_between : goal.decreases-order_between
decreases-order_between l = length l.key.now
