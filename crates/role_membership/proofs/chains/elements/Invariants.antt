use Rattle.role_membership.specs.Chains.{AreElementsOfFirst}
use Rattle.role_membership.proofs.chains.elements.Given as goal

abbrev pub invariant-loop-membership : goal.invariant-loop-membership
invariant-loop-membership l = AreElementsOfFirst l.membership-index l.members l.memberships l.elements.items
