use Rattle.std.proofs.Common.{◌≡◌, length, refl, subst, ℕ, arith}
use Rattle.std.proofs.lemmas.Option.{slice_get_read}
use Rattle.reachability.specs.Keyed.{NumberFirst}
use Rattle.reachability.proofs.Numbers.{number_more}
use Rattle.reachability.proofs.numbered.Numbered.add_all.Goals as goal

pub loop-element-init : goal.loop-element-init
loop-element-init g c = c.requires

pub loop-element-preserved : goal.loop-element-preserved
loop-element-preserved g c =
    let at = slice_get_read c.args.elements.now (length c.args.elements.now) c.loop-element.element-index c.element-item.result refl c.loop-element-test.true c.element-item.is in
    rw (c.in_ok-push.ensures.items, c.in_ok-push-2.ensures.items, c.in_ok-push-3.ensures.items)
    (number_more _ _ _ _ _ _ c.element-item.result _ _ _ _ _ _ c.loop-element.invariant c.in_ok-number.ensures.extends c.in_ok-number_if_any.ensures.extends at refl c.in_ok-number.ensures.number c.in_ok-number_if_any.ensures.number)

pub returns : goal.returns
returns g c =
    let all : c.loop-element.element-index ≡ length c.args.elements.now = omega (arith, c.loop-element-test.false, c.loop-element.auto.element-index-end) in
    subst (λ (n : ℕ). NumberFirst g.K.PartialEq.eq c.loop-element.known.keys n c.args.elements.now c.loop-element.self.starts.items c.loop-element.self.waits_for.items c.loop-element.self.gives.items) all c.loop-element.invariant
