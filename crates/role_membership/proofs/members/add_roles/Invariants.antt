use Rattle.std.proofs.Common.{◌≡◌, ◌||◌, false, take, bytes_eq}
use Rattle.std.specs.List.{list_any}
use Rattle.abstract_database.specs.Lists.{TheName, has_name, has_double}
use Rattle.role_membership.specs.Index.{Extends}
use Rattle.role_membership.proofs.members.add_roles.Given as goal

abbrev pub invariant-loop-membership : goal.invariant-loop-membership
invariant-loop-membership l = record {
  test : (s : TheName) → has_name s l.roles ≡ (has_name s l.initial.roles || list_any (λ m. bytes_eq s m.role) (take l.membership-index l.memberships));
  extends : Extends l.initial.roles l.roles;
  distinct : has_double l.initial.roles ≡ false → has_double l.roles ≡ false;
}
