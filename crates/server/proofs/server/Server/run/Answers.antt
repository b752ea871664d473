use Rattle.std.proofs.Common.{◌≡◌, ◌∙◌, sym, ap, [], ◌∷◌, ◌++◌, ◌+◌, take, length, arith, append_assoc}
use Rattle.std.proofs.lemmas.List.{take_more}
use Rattle.store.proofs.Reading.{history_joined}
use Rattle.server.proofs.Running.{runs_more, length_more}
use Rattle.server.proofs.server.Server.run.Goals as goal

pub loop-event-preserved : goal.loop-event-preserved
loop-event-preserved g c =
    let state = g.S.Map.state in
    let told = c.loop-event.invariant.told in
    let event = c.event-item.result in
    let first = c.args.self.now in
    let mid = c.loop-event.self in
    let new = c.step-answer.new.self in
    let at : take (c.loop-event.event-index + 1) c.args.events.now ≡ take c.loop-event.event-index c.args.events.now ++ event ∷ []
    = take_more c.args.events.now c.loop-event.event-index event (omega arith) ∙ ap (λ e. take c.loop-event.event-index c.args.events.now ++ e ∷ []) (sym c.event-item.is) in
    record {
      room = omega arith;
      count = (let now = ap length c.in-Ok.ensures.items ∙ length_more c.loop-event.answers.items c.step-answer.result in let before = c.loop-event.invariant.count in omega (arith, now, before));
      history = history_joined (state first.store) (state mid.store) (state new.store) c.loop-event.invariant.history c.step-answer.ensures.history;
      told = (
        told.0 ++ c.step-answer.result ∷ [],
        c.in-Ok.ensures.items ∙ ap (λ items. items ++ c.step-answer.result ∷ []) told.1 ∙ append_assoc c.args.answers.now.items told.0 (c.step-answer.result ∷ []),
        rw at (runs_more g.X.EventHandler.Reads state c.args.client first mid new (take c.loop-event.event-index c.args.events.now) told.0 event c.step-answer.result c.loop-event.invariant.history.sound
            told.2 c.step-answer.ensures.steps),
      );
    }
