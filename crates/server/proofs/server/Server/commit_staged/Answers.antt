use Rattle.std.proofs.Common.{refl, ◌∙◌, None}
use Rattle.store.specs.Store.{stored}
use Rattle.store.specs.Contents.{changed_by_batch}
use Rattle.catalogue.specs.Changes.{changed}
use Rattle.server.specs.Decisions.{machine_at}
use Rattle.server.proofs.Passing.{commit_done}
use Rattle.server.proofs.Carrying.{lock_is_free, works_unheld, commit_err}
use Rattle.server.proofs.server.Server.commit_staged.Goals as goal

pub returns-in-Ok-clause-carries : goal.returns-in-Ok-clause-carries
returns-in-Ok-clause-carries g c sound runs db holder e w p =
    let old = c.args.self.now in
    let st = g.S.Map.state old.store in
    let before = c.args.staged.before in
    let d = changed c.args.staged.change before in
    let commits = c.in-Ok.ensures.commits in
    let done = commits.at_once sound w.unfailed in (
      machine_at p.0 None old.sessions.entries,
      p.5,
      works_unheld g.S.Map.state (record old { store = c.commit.new.self; catalogue = c.make.result }) c.commit.new.self d p.0 old.sessions.entries refl c.make.ensures (lock_is_free st.map before old.writer holder p.2 w.held) runs refl (commits.failed ∙ w.unfailed)
          (done.committed.record_format ∙ w.second) (rw done.committed.map p.1),
      commit_done c.in-Ok.field-0 (changed_by_batch c.args.changes.now (stored st)) st (g.S.Map.state c.commit.new.self) before d db p.0 commits.history done w.second w.committed w.second p.1,
    )

pub returns-in-Err-clause-carries : goal.returns-in-Err-clause-carries
returns-in-Err-clause-carries g c sound runs db holder e w p =
    let old = record c.args.self.now { catalogue = c.args.staged.before } in
    let st = g.S.Map.state old.store in
    commit_err g.X.EventHandler.Reads g.S.Map.state old (record old { store = c.commit.new.self; catalogue = c.give_up.result }) db holder (changed c.args.staged.change c.args.staged.before)
    (changed_by_batch c.args.changes.now (stored st)) c.args.answer (machine_at p.0 None old.sessions.entries) e c.in-Err.fault sound w runs c.give_up.ensures refl refl refl
    c.in-Err.ensures.commits w.second p.1 p.3 p.4 p.5
