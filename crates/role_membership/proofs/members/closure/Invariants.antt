use Rattle.std.proofs.Common.{◌-◌, ◌^◌}
use Rattle.role_membership.proofs.Following.{AreFollowed}
use Rattle.role_membership.proofs.members.closure.Given as goal

abbrev pub invariant-loop-next : goal.invariant-loop-next
invariant-loop-next l = AreFollowed l.next l.memberships l.role l.roles

abbrev pub decreases-loop-next : goal.decreases-loop-next
decreases-loop-next l = 2 ^ 64 - l.next
