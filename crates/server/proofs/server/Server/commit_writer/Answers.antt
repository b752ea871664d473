use Rattle.std.proofs.Common.{◌≡◌, sym, ◌∙◌, ap, subst, Option, Some, None, Err}
use Rattle.store.specs.Records.{Records, applied}
use Rattle.store.specs.Store.{stored}
use Rattle.store.specs.Contents.{changed_by_batch}
use Rattle.stored_database.specs.Records.{Shows}
use Rattle.server.specs.declared.writer.Writer.{Writer}
use Rattle.server.specs.Writers.{definitions_or, definitions_under}
use Rattle.server.specs.Decisions.{machine_at, after_change}
use Rattle.server.specs.declared.decision.Decision.TheVariants as decisions
use Rattle.server.proofs.Passing.{commit_done}
use Rattle.server.proofs.Dropping.{carries_from, same_under}
use Rattle.server.proofs.Carrying.{lock_is_held, lock_shows, works_unheld}
use Rattle.server.proofs.server.Server.commit_writer.Goals as goal

pub returns-in-Ok-clause-carries : goal.returns-in-Ok-clause-carries
returns-in-Ok-clause-carries g c sound runs db holder e w p =
    let state = g.S.Map.state in
    let old = c.args.self.now in
    let st = state old.store in
    let mid = c.commit_held.new.self in
    let held = lock_is_held st.map old.catalogue old.writer holder p.0 p.1 w.held in
    let writer = held.0 in
    let there : old.writer ≡ Some writer = held.1 in
    let d = definitions_or writer.catalogue old.catalogue in
    let led = c.in-Ok.ensures.ok writer there sound in
    let cs = led.0 in
    let shown : Shows (applied cs st.map) d p.0.database = subst (λ (z : Records). Shows z d p.0.database) (sym led.1) (lock_shows st.map old.catalogue old.writer writer holder p.0 there p.1 w.held) in
    let commits = led.2 in
    let done = commits.at_once sound w.unfailed in
    let kept = c.commit_held.ensures.kept in
    let ended = c.free_lock.ensures in
    let store : c.free_lock.new.self.store ≡ mid.store = ap (λ z. z.store) ended in
    let entries : c.free_lock.new.self.sessions.entries ≡ old.sessions.entries = ap (λ z. z.sessions.entries) ended ∙ ap (λ z. z.sessions.entries) kept in
    let after = after_change c.args.change old.sessions.entries in
    let changed : c.change_sessions.new.sessions.entries ≡ after = c.change_sessions.ensures (rw entries p.2) ∙ ap (λ z. after_change c.args.change z) entries in (
      machine_at p.0.database None after,
      p.5,
      works_unheld state (record c.free_lock.new.self { sessions = c.change_sessions.new.sessions }) mid.store d p.0.database after store
          (ap (λ z. z.catalogue) ended ∙ c.commit_held.ensures.definitions mid.catalogue ∙ ap (λ z. definitions_under old.writer z.catalogue) kept ∙ ap (λ (z : Option Writer). definitions_under z old.catalogue) there) (ap (λ z. z.writer) ended)
          (ap (λ z. z.stopped) ended ∙ ap (λ z. z.stopped) kept ∙ runs) changed (commits.failed ∙ w.unfailed) (done.committed.record_format ∙ w.second) (rw done.committed.map shown),
      rw store (commit_done c.in-Ok.field-0 (changed_by_batch cs (stored st)) st (state mid.store) old.catalogue d db p.0.database commits.history done w.second w.committed w.second shown),
    )

pub returns-in-Err-clause-carries : goal.returns-in-Err-clause-carries
returns-in-Err-clause-carries g c =
    carries_from g.X.EventHandler.Reads g.S.Map.state c.args.self.now c.changes_definitions-self.result c.commit_held.new.self (decisions.CommitWriter c.args.answer c.args.change) (Err c.in-Err.fault)
    (c.in-Err.ensures.err c.args.answer c.args.change)

-- ---- definitions

pub returns-in-Ok-clause-dropped : goal.returns-in-Ok-clause-dropped
returns-in-Ok-clause-dropped g c is =
    let old = c.args.self.now in
    let mid = c.commit_held.new.self in
    let kept = c.commit_held.ensures.kept in
    let ended = c.free_lock.ensures in
    ap (λ z. z.catalogue) ended ∙ c.commit_held.ensures.definitions mid.catalogue ∙ ap (λ z. definitions_under old.writer z.catalogue) kept
    ∙ same_under old.writer old.catalogue (sym c.changes_definitions-self.ensures ∙ sym (ap (λ z. z.may_have_dropped) ended ∙ ap (λ z. z.may_have_dropped) kept) ∙ is)

pub returns-in-Err-clause-dropped : goal.returns-in-Err-clause-dropped
returns-in-Err-clause-dropped g c is = ap (λ z. z.catalogue) c.commit_held.ensures.kept
