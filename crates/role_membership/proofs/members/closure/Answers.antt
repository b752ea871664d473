use Rattle.std.proofs.Common.{◌≤◌, length, arith}
use Rattle.role_membership.proofs.Following.{followed_none, followed_more, followed_all}
use Rattle.role_membership.proofs.Names.{test_of_chains}
use Rattle.role_membership.proofs.members.closure.Goals as goal

pub loop-next-init : goal.loop-next-init
loop-next-init c = followed_none c.args.memberships.now c.args.role.now _ _ c.none-roles.ensures c.in_ok-insert_if.ensures.among c.in_ok-insert_if.ensures.distinct

pub loop-next-preserved : goal.loop-next-preserved
loop-next-preserved c =
    followed_more c.loop-next.next c.args.memberships.now c.args.role.now c.loop-next.roles _ c.of_member.result.now c.at-member.result.now c.at-member.ensures c.of_member.ensures
    c.in_ok-add_roles.ensures.test c.in_ok-add_roles.ensures.extends c.in_ok-add_roles.ensures.distinct c.loop-next.invariant

pub returns : goal.returns
returns c =
    let all : length c.loop-next.roles ≤ c.loop-next.next = omega (arith, c.loop-next-test.false, c.len.ensures) in
    let chains = followed_all c.loop-next.next c.args.memberships.now c.args.role.now c.loop-next.roles all c.loop-next.invariant in
    record { chains = chains; test = test_of_chains c.args.memberships.now c.args.role.now c.loop-next.roles chains; distinct = c.loop-next.invariant.distinct }
