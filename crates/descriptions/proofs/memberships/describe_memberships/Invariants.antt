use Rattle.std.proofs.Common.{map, drop}
use Rattle.abstract_database.specs.Roles.{is_of_member}
use Rattle.abstract_database.specs.Whole.{Each}
use Rattle.descriptions.specs.Descriptions.{LeadsTo}
use Rattle.descriptions.proofs.Finding.{Finds}
use Rattle.descriptions.proofs.memberships.describe_memberships.Given as goal

abbrev pub invariant-loop-membership : goal.invariant-loop-membership
invariant-loop-membership l = record {
  found : Finds (is_of_member l.member) l.memberships (drop l.membership-index l.memberships) (map (λ m. m.membership.now) l.found.items);
  leads_to : Each (LeadsTo l.memberships) l.found.items;
}
