use Rattle.std.specs.Prelude.{◌≡◌, take}
use Rattle.role_membership.proofs.memberships.copies.Given as goal

abbrev pub invariant-loop-membership : goal.invariant-loop-membership
invariant-loop-membership l = l.copies.items ≡ take l.membership-index l.memberships
