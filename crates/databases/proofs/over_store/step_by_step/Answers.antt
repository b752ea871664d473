use Rattle.std.proofs.Common.{◌≡◌, ◌∙◌, refl, sym, ap, [], ◌∷◌, ◌++◌, ◌+◌, take, length, arith, append_assoc}
use Rattle.std.proofs.lemmas.List.{take_more, append-nil}
use Rattle.store.proofs.Reading.{history_joined}
use Rattle.server.proofs.Running.{length_more}
use Rattle.databases.specs.Lives.{of_client, all_of_client}
use Rattle.databases.proofs.Living.{all_and_one, steps_more}
use Rattle.databases.proofs.over_store.step_by_step.Goals as goal

pub loop-event-init : goal.loop-event-init
loop-event-init g c = record {
  room = (let fits = c.in_ok-reserve.ensures.ok in omega (arith, fits));
  count = (let same = ap length c.reserve.ensures.items in omega (arith, same));
  history = record { sound = λ is. is; fulls = omega arith; failures = omega arith; faults = omega arith };
  told = ([], [], c.reserve.ensures.items ∙ sym (append-nil c.args.answers.now.items), refl);
}

pub loop-event-preserved : goal.loop-event-preserved
loop-event-preserved g c =
    let state = g.S.Map.state in
    let told = c.loop-event.invariant.told in
    let event = c.event-item.result in
    let first = c.args.server.now in
    let mid = c.loop-event.server in
    let new = c.step-answer.new.self in
    let before = take c.loop-event.event-index c.args.events.now in
    let one_more : take (c.loop-event.event-index + 1) c.args.events.now ≡ before ++ event ∷ []
    = take_more c.args.events.now c.loop-event.event-index event (omega arith) ∙ ap (λ e. before ++ e ∷ []) (sym c.event-item.is) in
    let at : all_of_client 0 (take (c.loop-event.event-index + 1) c.args.events.now) ≡ all_of_client 0 before ++ of_client 0 event ∷ []
    = all_and_one 0 before (take (c.loop-event.event-index + 1) c.args.events.now) event one_more in
    record {
      room = omega arith;
      count = (let now = ap length c.in-Ok.ensures.items ∙ length_more c.loop-event.answers.items c.step-answer.result in let was = c.loop-event.invariant.count in omega (arith, now, was));
      history = history_joined (state first.store) (state mid.store) (state new.store) c.loop-event.invariant.history c.step-answer.ensures.history;
      told = (
        told.0 ++ c.step-answer.result ∷ [],
        told.1 ++ (state new.store).time.moment ∷ [],
        c.in-Ok.ensures.items ∙ ap (λ items. items ++ c.step-answer.result ∷ []) told.2 ∙ append_assoc c.args.answers.now.items told.0 (c.step-answer.result ∷ []),
        rw at (steps_more g.X.EventHandler.Reads state first mid new (all_of_client 0 before) told.0 told.1 (of_client 0 event) c.step-answer.result
            told.3 c.step-answer.ensures.history c.step-answer.ensures.steps),
      );
    }
