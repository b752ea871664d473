use Rattle.std.proofs.Common.{◌≡◌, ◌<◌, ◌+◌, ◌-◌, ◌∙◌, length, arith}
use Rattle.std.specs.Option.{option_map}
use Rattle.grant_graph.specs.Keys.{now_of}
use Rattle.grant_graph.proofs.Holders.{best_more}
use Rattle.grant_graph.proofs.acting.least_holder.Goals as goal

pub loop-left-preserved : goal.loop-left-preserved
loop-left-preserved c =
    let n = c.loop-left.left in
    let next : n ≡ n - 1 + 1 = omega (arith, c.loop-left-test.true) in
    let lt : n - 1 < length c.args.descriptors.now = omega (arith, c.loop-left-test.true, c.loop-left.invariant.inside) in
    record {
      inside = omega (arith, c.loop-left.invariant.inside);
      best = c.with_holder-best.ensures ∙ best_more c.args.table.now c.args.privilege c.args.roles.now c.args.descriptors.now (n - 1) n c.index-descriptors-left.result c.holder-holder.result (option_map now_of c.loop-left.best) next lt c.index-descriptors-left.is c.holder-holder.ensures c.loop-left.invariant.best;
    }
