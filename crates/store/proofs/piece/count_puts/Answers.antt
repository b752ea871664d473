use Rattle.std.proofs.Common.{arith}
use Rattle.store.proofs.Counting.{one_counted}
use Rattle.store.proofs.piece.count_puts.Goals as goal

-- a change more is counted
pub loop-change-preserved : goal.loop-change-preserved
loop-change-preserved c =
    let more = one_counted c.loop-change.change-index c.args.changes.now c.change-item.result c.loop-change-test.true c.change-item.is in
    record { counted = omega (arith, more, c.loop-change.invariant.counted, c.count_put-count.ensures.exact); few = omega (arith, c.loop-change.invariant.few, c.count_put-count.ensures.small) }
