use Rattle.sessions.proofs.Putting.{put_makes, copied_as}
use Rattle.sessions.proofs.roles.put_role.Goals as goal

pub returns : goal.returns
returns c =
    let s = c.args.session.now in
    let inside = c.session.inside in
    let changed =
    copied_as s inside.login c.args.role.now c.in_ok-try_copy-2.field-0 inside.role inside.block c.in_ok-try_copy.field-0 c.in_ok-copy_block.field-0
    c.session.view_is c.in_ok-try_copy.ensures c.in_ok-try_copy-2.ensures c.in_ok-copy_block.ensures in
    put_makes c.args.number s _ c.args.tag c.done.result c.args.role.now c.done.ensures changed
