use Rattle.std.proofs.Common.{◌≡◌, ◌&&◌, take, bytes_eq}
use Rattle.std.specs.List.{list_any}
use Rattle.abstract_database.specs.Lists.{TheName, has_name}
use Rattle.role_membership.proofs.checks.held.Given as goal

abbrev pub invariant-loop-membership : goal.invariant-loop-membership
invariant-loop-membership l = (s : TheName) → has_name s l.names ≡ list_any (λ m. bytes_eq m.role s && m.admin && has_name m.member l.members) (take l.membership-index l.memberships)
