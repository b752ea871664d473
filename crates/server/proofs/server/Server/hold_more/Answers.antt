use Rattle.std.proofs.Common.{refl, ap, Some}
use Rattle.transactions.specs.Views.{applied_all}
use Rattle.server.specs.declared.writer.Writer.{Writer}
use Rattle.server.specs.Writers.{definitions_or}
use Rattle.server.specs.Decisions.{machine_at}
use Rattle.server.proofs.Passing.{none_pass}
use Rattle.server.proofs.Carrying.{held_with, out_of_memory}
use Rattle.server.proofs.server.Server.hold_more.Goals as goal

pub returns-in-Ok-clause-carries : goal.returns-in-Ok-clause-carries
returns-in-Ok-clause-carries g c sound runs db holder e w p =
    let old = c.args.self.now in
    let st = g.S.Map.state old.store in
    let d = old.catalogue in
    let writer = c.args.writer in
    let later = c.add.new.self in (
      machine_at db (Some (record { session = c.args.session; database = p.0 })) old.sessions.entries,
      p.4,
      record {
        sessions = refl;
        running = refl;
        runs = runs;
        works = record {
          unfailed = w.unfailed;
          second = w.second;
          committed = w.committed;
          held = (
            refl,
            held_with st.map (applied_all writer.lists st.map) d (definitions_or writer.catalogue d) (Some writer) c.args.effect.changes c.args.effect.schema later.lists later.catalogue p.0 refl refl
                (c.in-Ok.ensures.records st.map (g.met.S.Map.ordered old.store sound))
                c.in-Ok.ensures.definitions p.1,
          );
          in_block = p.2;
        };
      },
      none_pass st d db sound (g.met.S.Map.only_now old.store) (λ x left. g.met.S.Store.settled old.store x sound w.unfailed left) w.second w.committed,
    )

pub returns-in-Err-clause-carries : goal.returns-in-Err-clause-carries
returns-in-Err-clause-carries g c sound runs db holder e w p =
    let old = record c.args.self.now { writer = Some c.args.writer } in
    out_of_memory g.X.EventHandler.Reads g.S.Map.state old (record old { writer = Some c.add.new.self }) db holder e sound (g.met.S.Map.only_now old.store) (λ x left. g.met.S.Store.settled old.store x sound w.unfailed left) w runs
    refl refl (ap (λ (z : Writer). Some z) c.in-Err.ensures.err) refl refl p.3
