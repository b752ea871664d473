use Rattle.std.proofs.Common.{refl, ◌∙◌}
use Rattle.reachability.proofs.Queues.{finds_more}
use Rattle.reachability.proofs.found.Visited.add_all.Goals as goal

pub add-requires : goal.add-requires
add-requires c = rw c.loop-element.invariant.count (c.requires c.loop-element.element-index 0 c.loop-element-test.true)

pub loop-element-preserved : goal.loop-element-preserved
loop-element-preserved c = record {
  count = c.add.ensures.count ∙ c.loop-element.invariant.count;
  finds = finds_more _ _ _ _ _ _ _ _ _ refl c.loop-element.invariant.finds c.in_ok-add.ensures.found;
  queue = λ is. c.in_ok-add.ensures.queue (c.loop-element.invariant.queue is);
}
