use Rattle.std.proofs.Common.{◌≡◌, refl, sym}
use Rattle.abstract_database.specs.Machine.{with_session}
use Rattle.server.specs.Decisions.{machine_at}
use Rattle.server.proofs.Passing.{none_pass}
use Rattle.server.proofs.Carrying.{inserted_to}
use Rattle.server.proofs.server.Server.open_session.Goals as goal

pub returns-in-Ok-clause-carries : goal.returns-in-Ok-clause-carries
returns-in-Ok-clause-carries g c sound runs db holder e w p =
    let old = c.args.self.now in
    let after = with_session old.sessions.entries c.args.number c.args.session in
    let entries : c.insert.new.self.entries ≡ after = inserted_to old.sessions.entries c.insert.new.self.entries c.args.number c.args.session c.in-Ok.ensures.entries in (
      machine_at db holder after,
      p.2,
      record {
        sessions = sym entries;
        running = refl;
        runs = runs;
        works = record { unfailed = w.unfailed; second = w.second; committed = w.committed; held = w.held; in_block = rw entries p.1 };
      },
      none_pass (g.S.Map.state old.store) old.catalogue db sound (g.met.S.Map.only_now old.store) (λ x left. g.met.S.Store.settled old.store x sound w.unfailed left) w.second w.committed,
    )

pub returns-in-Err-clause-carries : goal.returns-in-Err-clause-carries
returns-in-Err-clause-carries g c sound runs db holder e w p =
    let old = c.args.self.now in
    let entries : c.insert.new.self.entries ≡ old.sessions.entries = c.in-Err.ensures.err in (
      p.0,
      record {
        sessions = sym entries;
        running = refl;
        runs = runs;
        works = record { unfailed = w.unfailed; second = w.second; committed = w.committed; held = w.held; in_block = rw entries w.in_block };
      },
      none_pass (g.S.Map.state old.store) old.catalogue db sound (g.met.S.Map.only_now old.store) (λ x left. g.met.S.Store.settled old.store x sound w.unfailed left) w.second w.committed,
    )
