use Rattle.std.proofs.Common.{None, refl, sym, subst}
use Rattle.server.specs.declared.decision.Decision.{Decision}
use Rattle.server.specs.Decisions.{Decides, machine_at, after_change}
use Rattle.server.proofs.Passing.{none_pass}
use Rattle.server.proofs.Carrying.{works_unheld}
use Rattle.server.proofs.server.Server.apply.Goals as goal

pub returns-in-Answer-clause-carries : goal.returns-in-Answer-clause-carries
returns-in-Answer-clause-carries g c sound runs db holder e w decides =
    let old = c.args.self.now in
    let st = g.S.Map.state old.store in
    let is = subst (λ (z : Decision). Decides g.X.EventHandler.Reads st.map old.catalogue old.writer db holder old.sessions.entries e z) c.in-Answer.is decides in
    let after = after_change c.in-Answer.change old.sessions.entries in
    let changed = c.change_sessions.ensures is.0 in (
      machine_at db holder after,
      is.2,
      record {
        sessions = sym changed;
        running = refl;
        runs = runs;
        works = record { unfailed = w.unfailed; second = w.second; committed = w.committed; held = w.held; in_block = rw changed is.1 };
      },
      none_pass st old.catalogue db sound (g.met.S.Map.only_now old.store) (λ x left. g.met.S.Store.settled old.store x sound w.unfailed left) w.second w.committed,
    )

pub returns-in-Open-clause-carries : goal.returns-in-Open-clause-carries
returns-in-Open-clause-carries g c sound runs db holder e w decides =
    let old = c.args.self.now in
    c.open_session.ensures.carries sound runs db holder e w
    (subst (λ (z : Decision). Decides g.X.EventHandler.Reads (g.S.Map.state old.store).map old.catalogue old.writer db holder old.sessions.entries e z) c.in-Open.is decides)

pub returns-in-Release-clause-carries : goal.returns-in-Release-clause-carries
returns-in-Release-clause-carries g c sound runs db holder e w decides =
    let old = c.args.self.now in
    let st = g.S.Map.state old.store in
    let is = subst (λ (z : Decision). Decides g.X.EventHandler.Reads st.map old.catalogue old.writer db holder old.sessions.entries e z) c.in-Release.is decides in
    let after = after_change c.in-Release.change old.sessions.entries in (
      machine_at db None after,
      is.1,
      works_unheld g.S.Map.state (record old { writer = None; sessions = c.change_sessions-in-Release.new.sessions }) old.store old.catalogue db after refl refl refl runs (c.change_sessions-in-Release.ensures is.0) w.unfailed w.second w.committed,
      none_pass st old.catalogue db sound (g.met.S.Map.only_now old.store) (λ x left. g.met.S.Store.settled old.store x sound w.unfailed left) w.second w.committed,
    )

pub returns-in-Commit-clause-carries : goal.returns-in-Commit-clause-carries
returns-in-Commit-clause-carries g c sound runs db holder e w decides =
    let old = c.args.self.now in
    c.commit.ensures.carries sound runs db holder e w
    (subst (λ (z : Decision). Decides g.X.EventHandler.Reads (g.S.Map.state old.store).map old.catalogue old.writer db holder old.sessions.entries e z) c.in-Commit.is decides)

pub returns-in-Hold-clause-carries : goal.returns-in-Hold-clause-carries
returns-in-Hold-clause-carries g c sound runs db holder e w decides =
    let old = c.args.self.now in
    c.hold.ensures.carries sound runs db holder e w
    (subst (λ (z : Decision). Decides g.X.EventHandler.Reads (g.S.Map.state old.store).map old.catalogue old.writer db holder old.sessions.entries e z) c.in-Hold.is decides)

pub returns-in-CommitWriter-clause-carries : goal.returns-in-CommitWriter-clause-carries
returns-in-CommitWriter-clause-carries g c sound runs db holder e w decides =
    let old = c.args.self.now in
    c.commit_writer.ensures.carries sound runs db holder e w
    (subst (λ (z : Decision). Decides g.X.EventHandler.Reads (g.S.Map.state old.store).map old.catalogue old.writer db holder old.sessions.entries e z) c.in-CommitWriter.is decides)
