use Rattle.std.proofs.Common.{◌≡◌, ◌∙◌, ap, List, Bool, take, drop, length}
use Rattle.std.proofs.lemmas.Result.{IfOk-weaker}
use Rattle.reachability.specs.Keyed.{AreReachedByKeys}
use Rattle.grant_graph.specs.Supports.{MarkSupported}
use Rattle.grant_graph.proofs.Elements.{either_of_halves}
use Rattle.grant_graph.proofs.Links.{same_right, marks_supported}
use Rattle.grant_graph.proofs.supports.reached.Goals as goal

pub returns : goal.returns
returns c =
    let ds = c.args.descriptors.now in
    let all = c.in_ok-marks.marks.items in
    let reached : AreReachedByKeys same_right c.in_ok-elements.elements.items all = rw c.as_slice.ensures.value at c.in_ok-marks.ensures in
    let front : c.split_at.result.0.now ≡ take (length ds) all = c.split_at.ensures.front ∙ ap (λ (l : List Bool). take (length ds) l) c.as_slice-2.ensures.value in
    let back : c.split_at.result.1.now ≡ drop (length ds) all = c.split_at.ensures.back ∙ ap (λ (l : List Bool). drop (length ds) l) c.as_slice-2.ensures.value in
    let count : length c.split_at.result.0.now ≡ length ds = c.split_at.ensures.front_len in
    IfOk-weaker c.either.result _ (λ marks. MarkSupported c.args.named.now ds marks.items)
    (λ marks either. marks_supported c.args.named.now ds c.in_ok-elements.elements.items c.in_ok-elements.ensures all reached marks.items
    (either_of_halves (length ds) all c.split_at.result.0.now c.split_at.result.1.now marks.items front back count either))
    c.either.ensures
