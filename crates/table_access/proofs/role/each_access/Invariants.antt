use Rattle.std.proofs.Common.{map, drop}
use Rattle.abstract_database.specs.Whole.{Each}
use Rattle.descriptions.specs.Descriptions.{InEach}
use Rattle.table_access.specs.Accesses.{KnowsItsRoles, HasOfTable}
use Rattle.table_access.proofs.Gathering.{Copies}
use Rattle.table_access.proofs.role.each_access.Given as goal

abbrev pub invariant-loop-role : goal.invariant-loop-role
invariant-loop-role l = record {
  roles : Copies (λ r. r) l.catalogue.roles (drop l.role-index l.catalogue.roles) (map (λ r. r.role.now) l.found.items);
  known : Each (KnowsItsRoles l.catalogue.memberships) l.found.items;
  own : InEach l.catalogue l.table (λ db. Each (HasOfTable db l.table.definition) l.found.items);
}
