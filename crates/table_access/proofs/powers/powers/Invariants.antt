use Rattle.std.proofs.Common.{map, drop}
use Rattle.abstract_database.specs.Whole.{Each}
use Rattle.stored_database.specs.Definitions.{database_of}
use Rattle.table_access.specs.Powers.{HasPowers}
use Rattle.table_access.proofs.Gathering.{Copies}
use Rattle.table_access.proofs.powers.powers.Given as goal

abbrev pub invariant-loop-role : goal.invariant-loop-role
invariant-loop-role l = record {
  roles : Copies (λ r. r) l.catalogue.roles (drop l.role-index l.catalogue.roles) (map (λ x. x.role.now) l.found.items);
  each : Each (HasPowers (database_of l.catalogue)) l.found.items;
}
