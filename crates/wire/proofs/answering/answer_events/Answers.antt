use Rattle.std.proofs.Common.{ℕ, List, take, subst, arith}
use Rattle.std.specs.Io.KnownBytes.{Appends}
use Rattle.wire.specs.Telling.{session_of}
use Rattle.wire.proofs.Told.{told_then, broken_then}
use Rattle.store.proofs.Reading.{history_joined}
use Rattle.wire.specs.Answers.{AnswersSome}
use Rattle.wire.proofs.Answered.{at_error, history_kept, events_to, none_answered, answered_more, begun_with, answered_to_end, broken_at_end, all_of_none}
use Rattle.wire.proofs.answering.answer_events.Goals as goal

pub returns-in_default-clause-ok : goal.returns-in_default-clause-ok
returns-in_default-clause-ok g c =
    all_of_none g.X.EventHandler.Reads g.S.Map.state g.K.Sink c.args.server.now c.args.events.now c.args.sink.now c.in_default.ensures

pub loop-index-init : goal.loop-index-init
loop-index-init g c = record {
  history = history_kept (g.S.Map.state c.args.server.now.store);
  answered = none_answered g.X.EventHandler.Reads g.S.Map.state g.K.Sink c.args.server.now c.args.sink.now;
}

pub returns-in_err-answer_event-clause-err : goal.returns-in_err-answer_event-clause-err
returns-in_err-answer_event-clause-err g c =
    at_error c.from_residual.result (AnswersSome g.X.EventHandler.Reads g.S.Map.state g.K.Sink c.args.server.now c.args.events.now c.args.sink.now c.answer_event.new.server c.answer_event.new.sink)
    (begun_with g.X.EventHandler.Reads g.S.Map.state g.K.Sink c.args.server.now c.loop-index.server c.answer_event.new.server c.args.events.now c.loop-index.index c.index-events-index.result
    c.in_err-answer_event.ensures.broken.0 c.args.sink.now c.loop-index.sink c.answer_event.new.sink c.loop-index.invariant.history.sound (omega arith) c.index-events-index.is c.loop-index.invariant.answered
    c.in_err-answer_event.ensures.broken.1)

pub loop-index-preserved : goal.loop-index-preserved
loop-index-preserved g c =
    let next = events_to c.args.events.now c.loop-index.index c.index-events-index.result (omega arith) c.index-events-index.is in
    let it = c.in_ok-answer_event.ensures.told in
    let taken = subst (λ (bytes : List ℕ). Appends (g.K.Sink.held c.loop-index.sink) (g.K.Sink.held c.answer_event.new.sink) bytes) (g.met.K.TakesFrames.takes_frames (session_of c.index-events-index.result) it.0.answer) it.1.taken in
    let more = answered_more g.X.EventHandler.Reads g.S.Map.state g.K.Sink c.args.server.now c.loop-index.server c.answer_event.new.server (take c.loop-index.index c.args.events.now) c.index-events-index.result it.0
    c.args.sink.now c.loop-index.sink c.answer_event.new.sink c.loop-index.invariant.history.sound c.loop-index.invariant.answered it.1 taken in
    record {
      history = history_joined (g.S.Map.state c.args.server.now.store) (g.S.Map.state c.loop-index.server.store) (g.S.Map.state c.answer_event.new.server.store) c.loop-index.invariant.history
          c.in_ok-answer_event.ensures.history;
      answered = rw next more;
    }

pub returns-clause-ok : goal.returns-clause-ok
returns-clause-ok g c =
    answered_to_end g.X.EventHandler.Reads g.S.Map.state g.K.Sink c.tell_last.result c.args.server.now c.loop-index.server c.step-answer.new.self c.args.events.now c.loop-index.index c.in-Some.last c.index-events-last.result
    c.args.sink.now c.loop-index.sink c.tell_last.new.self c.loop-index.invariant.history.sound (omega (arith, c.in-Some.ensures)) (omega arith) c.index-events-last.is g.met.K.TakesFrames.takes_frames c.loop-index.invariant.answered
    (told_then g.X.EventHandler.Reads g.S.Map.state g.K.Sink c.loop-index.server c.step-answer.new.self c.loop-index.sink c.tell_last.new.self c.index-events-last.result c.step-answer.result _ _
    c.step-answer.ensures.steps c.step-answer.ensures.history c.store.ensures c.session_of.ensures c.tell_last.result c.tell_last.ensures.told c.tell_last.ensures.taken)

pub returns-clause-err : goal.returns-clause-err
returns-clause-err g c =
    broken_at_end g.X.EventHandler.Reads g.S.Map.state g.K.Sink c.tell_last.result c.args.server.now c.loop-index.server c.step-answer.new.self c.args.events.now c.loop-index.index c.in-Some.last c.index-events-last.result
    c.args.sink.now c.loop-index.sink c.tell_last.new.self c.loop-index.invariant.history.sound (omega (arith, c.in-Some.ensures)) (omega arith) c.index-events-last.is c.loop-index.invariant.answered
    (broken_then g.X.EventHandler.Reads g.S.Map.state g.K.Sink c.loop-index.server c.step-answer.new.self c.loop-index.sink c.tell_last.new.self c.index-events-last.result c.step-answer.result _ _
    c.step-answer.ensures.steps c.step-answer.ensures.history c.store.ensures c.session_of.ensures c.tell_last.result c.tell_last.ensures.broken c.tell_last.ensures.counts)
