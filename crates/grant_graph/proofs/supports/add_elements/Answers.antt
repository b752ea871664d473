use Rattle.std.proofs.Common.{length, refl}
use Rattle.std.proofs.lemmas.Option.{slice_get_read}
use Rattle.grant_graph.proofs.Elements.{none_follow, follow_more}
use Rattle.grant_graph.proofs.supports.add_elements.Goals as goal

pub loop-index-init : goal.loop-index-init
loop-index-init c = none_follow c.args.on_table c.args.named.now c.args.descriptors.now c.args.elements.now.items

pub loop-index-preserved : goal.loop-index-preserved
loop-index-preserved c =
    let ds = c.args.descriptors.now in
    let at = slice_get_read ds (length ds) c.loop-index.index c.index-descriptors-index.result refl c.loop-index-test.true c.index-descriptors-index.is in
    rw c.in_ok-push.ensures.items (follow_more c.args.on_table c.loop-index.index c.args.named.now ds c.index-descriptors-index.result _ _ _ c.loop-index.invariant at c.element.ensures)
