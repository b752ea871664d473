use Rattle.std.proofs.Common.{arith}
use Rattle.journal_store.proofs.Counted.{counted_more}
use Rattle.journal_store.proofs.room.left_after_all.Goals as goal

pub loop-list-preserved : goal.loop-list-preserved
loop-list-preserved c =
    let more = counted_more c.args.lists.now c.loop-list.list-index c.list-item.result c.loop-list-test.true c.list-item.is in
    omega (arith, more, c.loop-list.invariant, c.in_ok-left.ensures)
