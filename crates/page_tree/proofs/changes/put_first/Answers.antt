use Rattle.page_tree.proofs.Faults.{fails}
use Rattle.page_tree.proofs.Taking.{err_fails}
use Rattle.page_tree.proofs.PutSteps.{represents_as}
use Rattle.page_tree.proofs.Bounded.{put_is}
use Rattle.page_tree.proofs.changes.put_first.Goals as goal

pub returns-in_err-put-clause-put : goal.returns-in_err-put-clause-put
returns-in_err-put-clause-put g c sound map represents first rest whole some =
    fails c.from_residual.result c.in_err-put.field-0.0 _ _ c.from_residual.ensures.1 (c.in_err-put.ensures.put sound map represents)

pub returns-in_err-put-clause-takes : goal.returns-in_err-put-clause-takes
returns-in_err-put-clause-takes g c sound map represents =
    err_fails c.from_residual.result c.in_err-put.field-0.0 _ c.from_residual.ensures.1 (c.in_err-put.ensures.takes sound map represents)

pub returns-clause-put : goal.returns-clause-put
returns-clause-put g c sound map represents first rest whole some =
    let now = c.in_ok-put.ensures.put sound map represents in
    (now.0, represents_as _ _ _ (put_is map first rest c.args.changes.now whole c.index-changes-0.result c.index-changes-0.is c.key.result.now c.in-Some.value.now c.key.ensures c.in-Some.ensures) now.1)
