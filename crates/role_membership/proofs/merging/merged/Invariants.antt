use Rattle.std.proofs.Common.{◌≡◌, take, drop}
use Rattle.abstract_database.specs.Lists.{TheName, Among}
use Rattle.abstract_database.specs.Roles.{memberships_of}
use Rattle.role_membership.specs.Merging.{put_all, texts, list_of, AreOfRolesBefore}
use Rattle.role_membership.proofs.merging.merged.Given as goal

abbrev pub invariant-loop-role : goal.invariant-loop-role
invariant-loop-role l = record {
  list : list_of l.merge ≡ put_all (memberships_of (take l.role-index (texts l.role-items)) (texts l.each_member.items) l.admin) l.memberships;
  before : (s : TheName) → Among s (drop l.role-index (texts l.role-items)) → AreOfRolesBefore l.merge.merged.items s;
}
