use Rattle.std.proofs.Common.{ap}
use Rattle.abstract_database.specs.Lists.{has_name}
use Rattle.abstract_database.specs.Database.{is_role_named}
use Rattle.role_membership.proofs.Names.{found_more, found_all, names_symmetric}
use Rattle.role_membership.proofs.checks.role_names.Goals as goal

pub loop-role-init : goal.loop-role-init
loop-role-init c = λ s. ap (has_name s) c.none-names.ensures

pub loop-role-preserved : goal.loop-role-preserved
loop-role-preserved c = λ s.
    found_more (is_role_named s) c.args.roles.now c.loop-role.role-index c.role-item.result _ _ _ c.loop-role-test.true c.role-item.is (names_symmetric s c.role-item.result.name) (c.in_ok-insert_if.ensures.test s) (c.loop-role.invariant s)

pub returns : goal.returns
returns c = λ s. found_all (is_role_named s) c.args.roles.now c.loop-role.role-index _ c.loop-role-test.false (c.loop-role.invariant s)
