use Rattle.std.proofs.Common.{◌≡◌, sym, ◌∙◌}
use Rattle.std.proofs.lemmas.Result.{on_ok_weaker}
use Rattle.reachability.specs.Waiting.{bucket_at}
use Rattle.reachability.proofs.Lists.{list_of}
use Rattle.reachability.proofs.Follows.{follows, elements_inside}
use Rattle.reachability.proofs.elements.follow.Goals as goal

pub add_all-requires : goal.add_all-requires
add_all-requires c =
    let keys = c.requires.keys in
    let list : bucket_at c.args.lists.now c.in-Some.key ≡ c.as_slice.result.now = list_of c.args.lists.now c.in-Some.key c.index-lists-key.result (keys.gives c.args.element c.in-Some.key c.in-Some.is) c.index-lists-key.is ∙ sym c.as_slice.ensures.value in
    elements_inside _ c.args.lists.now c.in-Some.key c.as_slice.result.now _ list c.requires.wait (keys.waits_for_count ∙ sym c.requires.count)

pub returns-in-Some-clause-found : goal.returns-in-Some-clause-found
returns-in-Some-clause-found c =
    let keys = c.requires.keys in
    let list : bucket_at c.args.lists.now c.in-Some.key ≡ c.as_slice.result.now = list_of c.args.lists.now c.in-Some.key c.index-lists-key.result (keys.gives c.args.element c.in-Some.key c.in-Some.is) c.index-lists-key.is ∙ sym c.as_slice.ensures.value in
    on_ok_weaker c.add_all.result (λ finds. follows _ c.args.lists.now c.args.element c.in-Some.key c.as_slice.result.now _ _ _ _ keys.waits_for_count c.in-Some.is list c.requires.wait finds) c.add_all.ensures.found
