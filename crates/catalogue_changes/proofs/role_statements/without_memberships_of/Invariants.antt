use Rattle.std.proofs.Common.{◌≡◌, ◌++◌, drop}
use Rattle.abstract_database.specs.Lists.{drop_where}
use Rattle.catalogue.specs.Changes.{concerns}
use Rattle.catalogue_changes.proofs.role_statements.without_memberships_of.Given as goal

-- the memberships to come are left to copy
abbrev pub invariant-loop-membership : goal.invariant-loop-membership
invariant-loop-membership l = drop_where (concerns l.name) l.memberships ≡ l.left ++ drop_where (concerns l.name) (drop l.membership-index l.memberships)
