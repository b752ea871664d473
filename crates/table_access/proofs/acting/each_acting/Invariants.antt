use Rattle.std.proofs.Common.{map, drop}
use Rattle.abstract_database.specs.Whole.{Each}
use Rattle.descriptions.specs.Descriptions.{InEach}
use Rattle.table_access.specs.Accesses.{HasShownRoles}
use Rattle.table_access.proofs.Gathering.{Copies}
use Rattle.table_access.proofs.acting.each_acting.Given as goal

abbrev pub invariant-loop-role : goal.invariant-loop-role
invariant-loop-role l = record {
  roles : Copies (λ r. r.role.now) l.catalogue.roles (drop l.role-index l.roles) (map (λ r. r.role.now) l.found.items);
  others : InEach l.catalogue l.table (λ db. Each (HasShownRoles db l.table.definition) l.found.items);
}
