use Rattle.std.proofs.Common.{map, drop}
use Rattle.abstract_database.specs.Whole.{Each}
use Rattle.descriptions.proofs.Finding.{Finds}
use Rattle.table_access.specs.Accesses.{IsActedAs}
use Rattle.table_access.specs.Powers.{comes_to}
use Rattle.table_access.proofs.powers.other_roles.Given as goal

abbrev pub invariant-loop-other : goal.invariant-loop-other
invariant-loop-other l = record {
  others : Finds (comes_to l.catalogue.memberships l.role) l.catalogue.roles (drop l.other-index l.catalogue.roles) (map (λ y. y.role.now) l.found.items);
  memberships : Each (IsActedAs l.catalogue.memberships l.role.name) l.found.items;
}
