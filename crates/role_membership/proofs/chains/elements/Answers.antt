use Rattle.std.proofs.Common.{length, refl}
use Rattle.std.proofs.lemmas.Option.{slice_get_read}
use Rattle.role_membership.proofs.Elements.{elements_more}
use Rattle.role_membership.proofs.chains.elements.Goals as goal

pub loop-membership-preserved : goal.loop-membership-preserved
loop-membership-preserved c =
    let at = slice_get_read c.args.memberships.now (length c.args.memberships.now) c.loop-membership.membership-index c.membership-item.result refl c.loop-membership-test.true c.membership-item.is in
    rw c.in_ok-push.ensures.items (elements_more _ _ _ c.membership-item.result _ _ c.loop-membership.invariant at c.element.ensures)
