use Rattle.std.proofs.Common.{◌≡◌, ◌-◌, Bool, length}
use Rattle.role_membership.specs.Merging.{membership, list_of, AreBefore}
use Rattle.role_membership.proofs.merge.MembershipMerge.pass_to.Given as goal

abbrev pub invariant-loop-self : goal.invariant-loop-self
invariant-loop-self l = record {
  list : list_of l.self ≡ list_of l.initial.self;
  before : (admin : Bool) → AreBefore l.initial.self.merged.items (membership l.role admin l.member) → AreBefore l.self.merged.items (membership l.role admin l.member);
}

abbrev pub decreases-loop-self : goal.decreases-loop-self
decreases-loop-self l = length l.self.memberships.now - l.self.next
