use Rattle.std.proofs.Common.{◌≡◌, ◌++◌, drop}
use Rattle.role_membership.specs.Merging.{list_of}
use Rattle.role_membership.proofs.merge.MembershipMerge.finish.Given as goal

abbrev pub invariant-loop-index : goal.invariant-loop-index
invariant-loop-index l = l.merged.items ++ drop l.index l.self.memberships.now ≡ list_of l.fn.self
