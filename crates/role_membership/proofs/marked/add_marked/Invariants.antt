use Rattle.std.proofs.Common.{◌≡◌, false}
use Rattle.abstract_database.specs.Lists.{has_double}
use Rattle.role_membership.proofs.Names.{HaveNames}
use Rattle.role_membership.proofs.marked.add_marked.Given as goal

abbrev pub invariant-loop-index : goal.invariant-loop-index
invariant-loop-index l = record {
  names : HaveNames l.initial.roles l.memberships l.marks l.index l.roles;
  distinct : has_double l.initial.roles ≡ false → has_double l.roles ≡ false;
}
