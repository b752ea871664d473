use Rattle.std.proofs.Common.{◌≡◌, ◌∙◌, refl, sym, ap, subst, Option, Some}
use Rattle.store.specs.Records.{applied}
use Rattle.transactions.specs.Views.{applied_all}
use Rattle.catalogue.specs.Changes.{definitions_after}
use Rattle.server.specs.declared.writer.Writer.{Writer}
use Rattle.server.specs.Writers.{definitions_or, records_under, definitions_under}
use Rattle.server.specs.Decisions.{machine_at}
use Rattle.server.proofs.Passing.{none_pass}
use Rattle.server.proofs.Carrying.{held_with, out_of_memory}
use Rattle.server.proofs.server.Server.hold_first.Goals as goal

pub returns-in-Ok-clause-carries : goal.returns-in-Ok-clause-carries
returns-in-Ok-clause-carries g c free sound runs db holder e w p =
    let old = c.args.self.now in
    let st = g.S.Map.state old.store in
    let d = old.catalogue in
    let writer = c.add.new.self in
    let changes = c.args.effect.changes in
    let change = c.args.effect.schema in
    let first : applied_all writer.lists st.map ≡ applied changes st.map =
    subst (λ (before : Writer). applied_all writer.lists st.map ≡ applied changes (applied_all before.lists st.map)) c.new-writer.ensures (c.in-Ok.ensures.records st.map (g.met.S.Map.ordered old.store sound)) in
    let made : definitions_or writer.catalogue d ≡ definitions_after change d =
    subst (λ (before : Writer). definitions_or writer.catalogue d ≡ definitions_after change (definitions_or before.catalogue d)) c.new-writer.ensures c.in-Ok.ensures.definitions in
    let number : writer.session ≡ c.args.session = c.add.ensures.session ∙ ap (λ z. z.session) c.new-writer.ensures in (
      machine_at db (Some (record { session = c.args.session; database = p.0 })) old.sessions.entries,
      p.4,
      record {
        sessions = refl;
        running = refl;
        runs = runs;
        works = record {
          unfailed = w.unfailed;
          second = w.second;
          committed = w.committed;
          held = (
            sym number,
            held_with st.map st.map d d old.writer changes change writer.lists writer.catalogue p.0 (ap (λ (z : Option Writer). records_under z st.map) free) (ap (λ (z : Option Writer). definitions_under z d) free)
                first made p.1,
          );
          in_block = p.2;
        };
      },
      none_pass st d db sound (g.met.S.Map.only_now old.store) (λ x left. g.met.S.Store.settled old.store x sound w.unfailed left) w.second w.committed,
    )

pub returns-in-Err-clause-carries : goal.returns-in-Err-clause-carries
returns-in-Err-clause-carries g c free sound runs db holder e w p =
    let old = c.args.self.now in
    out_of_memory g.X.EventHandler.Reads g.S.Map.state old old db holder e sound (g.met.S.Map.only_now old.store) (λ x left. g.met.S.Store.settled old.store x sound w.unfailed left) w runs
    refl refl refl refl refl p.3
