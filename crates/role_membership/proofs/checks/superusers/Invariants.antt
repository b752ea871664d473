use Rattle.std.proofs.Common.{◌≡◌, ◌&&◌, take}
use Rattle.std.specs.List.{list_any}
use Rattle.abstract_database.specs.Lists.{TheName, has_name}
use Rattle.abstract_database.specs.Database.{is_role_named}
use Rattle.role_membership.proofs.checks.superusers.Given as goal

abbrev pub invariant-loop-role : goal.invariant-loop-role
invariant-loop-role l = (s : TheName) → has_name s l.names ≡ list_any (λ r. is_role_named s r && r.attributes.superuser) (take l.role-index l.roles)
