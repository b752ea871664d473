use Rattle.std.proofs.Common.{◌≤◌, ◌*◌, IfErr, ap, ◌∙◌, arith}
use Rattle.store.specs.Store.{Contents}
use Rattle.store.proofs.Reading.{history_joined}
use Rattle.dumps.specs.Form.{head}
use Rattle.dumps.specs.OnDevice.{DumpGoesOn}
use Rattle.dumps.proofs.Heads.{answered}
use Rattle.dumps.proofs.Moved.{moved, moved_back}
use Rattle.dumps.proofs.WholeReads.{goes_on_behind_head}
use Rattle.database_dumps.specs.Restoring.{HasCommitted, HasRestoreCause, RestoresIn}
use Rattle.database_dumps.proofs.Restored.{found_in, head_cause, head_refused, lists_cause, lists_refused, none_of_database, restored_in, roles_answered, unmark_cause, unmark_refused}
use Rattle.database_dumps.proofs.restoring.restore_store.Goals as goal

pub returns-in-Err-clause-restored : goal.returns-in-Err-clause-restored
returns-in-Err-clause-restored g c = λ faithful sound works was.
    head_refused (g.D.Device.state c.args.dump.now) (g.D.Device.state c.read_head.new.device) c.in-Err.fault (g.S.Map.state c.args.store.now) (λ dump holds. c.in-Err.ensures.unread faithful dump holds)

pub returns-in-Err-clause-cause : goal.returns-in-Err-clause-cause
returns-in-Err-clause-cause g c =
    head_cause (g.D.Device.state c.args.dump.now) (g.D.Device.state c.read_head.new.device) c.in-Err.fault (g.S.Map.state c.args.store.now) c.in-Err.ensures.cause

pub returns-in_err-commit_lists-clause-restored : goal.returns-in_err-commit_lists-clause-restored
returns-in_err-commit_lists-clause-restored g c = λ faithful sound works was.
    let d = g.D.Device.state c.args.dump.now in
    let e = g.D.Device.state c.read_head.new.device in
    let f = g.D.Device.state c.commit_lists.new.dump in
    let s = g.S.Map.state c.args.store.now in
    let t = g.S.Map.state c.commit_lists.new.store in
    let first = c.in-Ok.begun.1 in
    let number = c.in-Ok.begun.0 in
    let begun = c.in-Ok.ensures.begun faithful in
    let history = c.read_head.ensures.history in
    let same = (c.read_head.ensures.content faithful).content in
    answered (λ r. RestoresIn d r t) c.in_err-commit_lists.field-0.0 c.from_residual.result c.from_residual.ensures.1
    (lists_refused d e f c.in_err-commit_lists.field-0.0 s t t c.in_err-commit_lists.ensures.cause
    (λ dump holds. c.in_err-commit_lists.ensures.refused (history.faithful faithful) (head number) dump.lists begun.hashed
    (moved_back (λ n i. DumpGoesOn n i first.page (head number) first.lists dump.lists) d.sectors e.sectors d.content e.content history.sectors same (goes_on_behind_head d number dump first begun holds))))

pub returns-in_err-commit_lists-clause-cause : goal.returns-in_err-commit_lists-clause-cause
returns-in_err-commit_lists-clause-cause g c =
    let d = g.D.Device.state c.args.dump.now in
    let e = g.D.Device.state c.read_head.new.device in
    let f = g.D.Device.state c.commit_lists.new.dump in
    let s = g.S.Map.state c.args.store.now in
    let t = g.S.Map.state c.commit_lists.new.store in
    answered (λ r. IfErr r (λ fault. HasRestoreCause fault d f s t)) c.in_err-commit_lists.field-0.0 c.from_residual.result c.from_residual.ensures.1
    (lists_cause c.in_err-commit_lists.field-0.0 d e f s t c.read_head.ensures.history c.commit_lists.ensures.dump c.in_err-commit_lists.ensures.cause)

pub returns-in_err-unmark-clause-restored : goal.returns-in_err-unmark-clause-restored
returns-in_err-unmark-clause-restored g c = λ faithful sound works was.
    let d = g.D.Device.state c.args.dump.now in
    let t = g.S.Map.state c.commit_lists.new.store in
    let u = g.S.Map.state c.unmark.new.store in
    answered (λ r. RestoresIn d r u) c.in_err-unmark.field-0.0 c.from_residual-in_err-unmark.result c.from_residual-in_err-unmark.ensures.1
    (unmark_refused d c.in_err-unmark.field-0.0 t u u c.in_err-unmark.ensures.cause)

pub returns-in_err-unmark-clause-cause : goal.returns-in_err-unmark-clause-cause
returns-in_err-unmark-clause-cause g c =
    let d = g.D.Device.state c.args.dump.now in
    let f = g.D.Device.state c.commit_lists.new.dump in
    let s = g.S.Map.state c.args.store.now in
    let t = g.S.Map.state c.commit_lists.new.store in
    let u = g.S.Map.state c.unmark.new.store in
    answered (λ r. IfErr r (λ fault. HasRestoreCause fault d f s u)) c.in_err-unmark.field-0.0 c.from_residual-in_err-unmark.result c.from_residual-in_err-unmark.ensures.1
    (unmark_cause c.in_err-unmark.field-0.0 d f s t u c.commit_lists.ensures.history c.in_ok-commit_lists.ensures.works c.unmark.ensures.history c.in_err-unmark.ensures.cause)

pub returns-clause-restored : goal.returns-clause-restored
returns-clause-restored g c = λ faithful sound works was.
    let d = g.D.Device.state c.args.dump.now in
    let e = g.D.Device.state c.read_head.new.device in
    let s = g.S.Map.state c.args.store.now in
    let t = g.S.Map.state c.commit_lists.new.store in
    let u = g.S.Map.state c.unmark.new.store in
    let v = g.S.Map.state c.roles_in.new.store in
    let first = c.in-Ok.begun.1 in
    let number = c.in-Ok.begun.0 in
    let begun = c.in-Ok.ensures.begun faithful in
    let history = c.read_head.ensures.history in
    let same = (c.read_head.ensures.content faithful).content in
    let within : 8 * first.page ≤ e.sectors = omega (arith, history.sectors, begun.some, begun.page) in
    let committed : HasCommitted d.sectors d.content (head number) first s t =
    moved (λ n i. HasCommitted n i (head number) first s t) d.sectors e.sectors d.content e.content history.sectors same
    (c.in_ok-commit_lists.ensures.committed (history.faithful faithful) sound works (ap (λ (k : Contents). k.records) was) (head number) begun.hashed within) in
    let commits = c.in_ok-unmark.ensures.unmarks in
    let here = c.unmark.ensures.history.sound committed.sound in
    let reads = c.roles_in.ensures.reads in
    found_in d c.roles_in.result u v (c.roles_in.ensures.found here) c.roles_in.ensures.cause c.roles_in.ensures.failed
    (λ roles has works_still. restored_in d number first s t u v begun committed was commits (reads.history.sound here) (reads.unchanged here) roles has works_still)
    (λ none. none_of_database d number first s t u v begun committed was commits (reads.history.sound here) (reads.unchanged here) none)

pub returns-clause-cause : goal.returns-clause-cause
returns-clause-cause g c =
    let s = g.S.Map.state c.args.store.now in
    let t = g.S.Map.state c.commit_lists.new.store in
    let u = g.S.Map.state c.unmark.new.store in
    let v = g.S.Map.state c.roles_in.new.store in
    roles_answered c.roles_in.result (g.D.Device.state c.args.dump.now) (g.D.Device.state c.commit_lists.new.dump) s u v (history_joined s t u c.commit_lists.ensures.history c.unmark.ensures.history)
    (c.in_ok-unmark.ensures.unmarks.failed ∙ c.in_ok-commit_lists.ensures.works) c.roles_in.ensures.reads.history c.roles_in.ensures.cause
