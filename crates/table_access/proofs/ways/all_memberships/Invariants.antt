use Rattle.std.proofs.Common.{map, drop}
use Rattle.abstract_database.specs.Whole.{Each}
use Rattle.descriptions.specs.Descriptions.{LeadsTo}
use Rattle.table_access.proofs.Gathering.{Copies}
use Rattle.table_access.proofs.ways.all_memberships.Given as goal

abbrev pub invariant-loop-membership : goal.invariant-loop-membership
invariant-loop-membership l = record {
  all : Copies (λ m. m) l.memberships (drop l.membership-index l.memberships) (map (λ m. m.membership.now) l.found.items);
  leads_to : Each (LeadsTo l.memberships) l.found.items;
}
