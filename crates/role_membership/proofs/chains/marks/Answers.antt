use Rattle.std.proofs.lemmas.Result.{IfOk-weaker}
use Rattle.role_membership.specs.Chains.{AreMarked}
use Rattle.role_membership.proofs.Elements.{marks_of}
use Rattle.role_membership.proofs.chains.marks.Goals as goal

pub returns : goal.returns
returns c =
    IfOk-weaker c.reached_by_keys.result _ (λ marks. AreMarked c.args.roles.now c.args.memberships.now marks.items)
    (λ marks reached. marks_of c.args.roles.now c.args.memberships.now c.in_ok-elements.elements.items c.in_ok-elements.ensures marks.items reached)
    (rw c.as_slice.ensures.value at c.reached_by_keys.ensures)
