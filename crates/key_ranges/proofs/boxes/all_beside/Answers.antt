use Rattle.key_ranges.proofs.BoxLists.{next_one}
use Rattle.key_ranges.proofs.boxes.all_beside.Goals as goal

pub loop-one-preserved : goal.loop-one-preserved
loop-one-preserved c =
    next_one c.args.first.now c.args.second.now c.loop-one.one-index c.one-item.result c.loop-one-test.true c.one-item.is _ _ c.loop-one.invariant c.in_ok-push_beside.ensures
