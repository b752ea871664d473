use Rattle.std.proofs.Common.{◌≡◌, ◌++◌, take, drop}
use Rattle.abstract_database.specs.Lists.{change_where}
use Rattle.abstract_database.specs.Roles.{is_named_by}
use Rattle.role_membership.proofs.Changes.{without_option}
use Rattle.role_membership.proofs.revoking.clear_options.Given as goal

abbrev pub invariant-loop-membership : goal.invariant-loop-membership
invariant-loop-membership l = l.memberships ≡ change_where (is_named_by l.roles l.members) without_option (take l.membership-index l.initial.memberships) ++ drop l.membership-index l.initial.memberships
