use Rattle.std.proofs.Common.{arith, ap, sym, ◌∙◌}
use Rattle.std.specs.Ordering.{is_lt}
use Rattle.storage_sizes.proofs.Comparing.{one_ends}
use Rattle.storage_sizes.proofs.Numbers.{order_past}
use Rattle.storage_sizes.proofs.key_order.comes_before_from.Goals as goal

pub loop-at-init : goal.loop-at-init
loop-at-init c = order_past c.args.from c.args.key.now c.args.other.now (omega (arith, c.requires.inside)) (omega (arith, c.requires.inside)) c.requires.same

-- where one of the keys ends, the shorter comes first
pub returns : goal.returns
returns c =
    sym (one_ends c.args.key.now c.args.other.now c.loop-at.at (omega (arith, c.loop-at.auto.at-end, c.min-shared.ensures, c.requires.inside)) (omega (arith, c.loop-at.auto.at-end, c.min-shared.ensures, c.requires.inside)) (omega (arith, c.loop-at-test.false, c.min-shared.ensures)))
    ∙ sym (ap is_lt c.loop-at.invariant)
