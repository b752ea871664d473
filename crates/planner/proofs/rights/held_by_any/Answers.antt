use Rattle.planner.proofs.MaskBits.{given_to_one_more}
use Rattle.planner.proofs.rights.held_by_any.Goals as goal

pub loop-role-preserved : goal.loop-role-preserved
loop-role-preserved c =
    given_to_one_more c.args.table.now.descriptors c.args.action c.args.roles.now c.loop-role.role-index _ c.loop-role.mask c.held-mask.result c.loop-role.invariant c.held-mask.ensures.given c.loop-role-test.true
