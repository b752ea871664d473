use Rattle.std.proofs.Common.{bytes_eq}
use Rattle.sql_ast.specs.declared.role.Membership.{Membership}
use Rattle.role_membership.proofs.Names.{more_found, all_found}
use Rattle.role_membership.proofs.members.add_roles.Goals as goal

pub loop-membership-preserved : goal.loop-membership-preserved
loop-membership-preserved c = record {
  test = λ s. more_found (λ (m : Membership). bytes_eq s m.role) c.args.memberships.now c.loop-membership.membership-index c.membership-item.result _ _ _ c.loop-membership-test.true c.membership-item.is
      (c.loop-membership.invariant.test s) (c.in_ok-insert_if.ensures.test s);
  extends = λ i s at. c.in_ok-insert_if.ensures.extends i s (c.loop-membership.invariant.extends i s at);
  distinct = λ e. c.in_ok-insert_if.ensures.distinct (c.loop-membership.invariant.distinct e);
}

pub returns : goal.returns
returns c = record {
  test = λ s. all_found (λ (m : Membership). bytes_eq s m.role) c.args.memberships.now c.loop-membership.membership-index _ _ c.loop-membership-test.false (c.loop-membership.invariant.test s);
  extends = c.loop-membership.invariant.extends;
  distinct = c.loop-membership.invariant.distinct;
}
