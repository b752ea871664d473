use Rattle.std.proofs.Common.{◌≤◌, length, refl, sym, subst, arith, Bool}
use Rattle.std.specs.declared.vec.Vec.{Vec}
use Rattle.std.specs.declared.alloc.Global.{Global}
use Rattle.reachability.specs.Reached.{AreReached, elements_of}
use Rattle.reachability.proofs.Sweeps.{swept_none, swept_more, swept_all, few_found}
use Rattle.reachability.proofs.elements.reached.Goals.{else-loop-at-test, then-loop-at-test+in_default}
use Rattle.reachability.proofs.elements.reached.Goals as goal

pub loop-at-init : goal.loop-at-init
loop-at-init c = swept_none _ _ _ c.in_ok-found.ensures.count c.in_ok-found.ensures.queue c.in_ok-found.ensures.starts

pub loop-at-preserved : goal.loop-at-preserved
loop-at-preserved c =
    let swept = c.loop-at.invariant in
    swept_more _ _ c.in-Some.element _ _ _ _ swept c.in-Some.ensures.some.0 c.in-Some.ensures.some.1 c.in_ok-follow.ensures.found (c.in_ok-follow.ensures.queue swept.queue_of)

pub returns : goal.returns
returns c =
    let swept = c.loop-at.invariant in
    let all : length c.loop-at.found.queue.items ≤ c.loop-at.at = elim c.loop-at-test.branch [
      | else-loop-at-test w ↦ (let few = few_found _ _ _ _ swept in omega (arith, few, w.loop-at-test.false))
      | then-loop-at-test+in_default w ↦ w.in_default.ensures.none refl
    ] in
    subst (λ (marks : Vec Bool Global). AreReached (elements_of c.args.elements.now) marks.items) (sym c.into_marks.ensures) (swept_all _ c.loop-at.at _ _ swept all)
