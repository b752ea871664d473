use Rattle.std.proofs.Common.{List, subst}
use Rattle.sql_ast.specs.declared.role.Membership.{Membership}
use Rattle.role_membership.specs.Index.{IsIndexOf}
use Rattle.role_membership.proofs.memberships.Memberships.new.Goals as goal

pub invariant_of-result : goal.invariant_of-result
invariant_of-result c = record {
  order = c.requires;
  members = c.in_ok-by_member.ensures.order;
  same = subst (λ (ms : List Membership). IsIndexOf ms c.in_ok-by_member.by_member.items) c.as_slice.ensures.value c.in_ok-by_member.ensures.same;
}
