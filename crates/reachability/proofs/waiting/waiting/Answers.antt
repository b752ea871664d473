use Rattle.std.proofs.Common.{◌<◌, length, get_or, arith}
use Rattle.std.proofs.lemmas.Grind.{common_steps}
use Rattle.reachability.proofs.Lists.{waits_more}
use Rattle.reachability.proofs.waiting.waiting.Goals as goal

pub loop-element-preserved : goal.loop-element-preserved
loop-element-preserved c =
    let inside : get_or c.args.waits_for.now c.loop-element.element 0 < length c.loop-element.lists.items = rw c.loop-element.invariant.count (c.requires c.loop-element.element 0 c.loop-element-test.true) in
    record {
      count = grind (arith, common_steps, c.loop-element.invariant.count);
      wait = waits_more c.loop-element.element c.args.waits_for.now c.loop-element.lists.items _ _ inside c.index_mut.ensures.value c.in_ok-push.ensures.items c.loop-element.invariant.wait;
    }
