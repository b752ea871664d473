use Rattle.std.proofs.Common.{arith}
use Rattle.storage_sizes.proofs.Numbers.{equal_past}
use Rattle.storage_sizes.proofs.key_order.is_same_from.Goals as goal

pub loop-at-init : goal.loop-at-init
loop-at-init c = equal_past c.args.from c.args.key.now c.args.other.now (omega (arith, c.requires.inside)) (omega (arith, c.requires.inside, c.requires.long)) c.requires.same
