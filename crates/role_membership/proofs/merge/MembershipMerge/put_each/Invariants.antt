use Rattle.std.proofs.Common.{◌≡◌, take, drop, map}
use Rattle.abstract_database.specs.Lists.{TheName, Among}
use Rattle.role_membership.specs.Merging.{put_all, membership, texts, list_of, AreBefore, AreOfRolesUpTo}
use Rattle.role_membership.proofs.merge.MembershipMerge.put_each.Given as goal

abbrev pub invariant-loop-member : goal.invariant-loop-member
invariant-loop-member l = record {
  list : list_of l.self ≡ put_all (map (membership l.role l.admin) (take l.member-index (texts l.members))) (list_of l.initial.self);
  before : (s : TheName) → Among s (drop l.member-index (texts l.members)) → AreBefore l.self.merged.items (membership l.role l.admin s);
  up_to : AreOfRolesUpTo l.self.merged.items l.role;
}
