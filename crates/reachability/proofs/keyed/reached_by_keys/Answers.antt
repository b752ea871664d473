use Rattle.std.proofs.lemmas.Result.{IfOk-weaker}
use Rattle.reachability.specs.Keyed.{AreReachedByKeys}
use Rattle.reachability.proofs.Keys.{keys_below, reached_by_keys}
use Rattle.reachability.proofs.keyed.reached_by_keys.Goals as goal

pub reached-requires : goal.reached-requires
reached-requires g c =
    let are = c.in_ok-numbered.ensures in
    rw (c.as_slice.ensures.value, are.count, c.as_slice-2.ensures.value, c.as_slice-3.ensures.value)
    (keys_below g.K.PartialEq.eq g.met.K.Eq.laws are.known are.distinct c.args.elements.now _ _ _ are.each)

pub returns : goal.returns
returns g c =
    let are = c.in_ok-numbered.ensures in
    IfOk-weaker c.reached.result _ (λ marks. AreReachedByKeys g.K.PartialEq.eq c.args.elements.now marks.items)
    (λ marks reached. reached_by_keys g.K.PartialEq.eq g.met.K.Eq.laws are.known are.distinct c.args.elements.now _ _ _ are.each marks.items reached)
    (rw (c.as_slice.ensures.value, c.as_slice-2.ensures.value, c.as_slice-3.ensures.value) at c.reached.ensures)
