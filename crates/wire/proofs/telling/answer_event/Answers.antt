use Rattle.wire.proofs.Told.{told_then, broken_then}
use Rattle.wire.proofs.telling.answer_event.Goals as goal

pub returns-clause-told : goal.returns-clause-told
returns-clause-told g c =
    told_then g.X.EventHandler.Reads g.S.Map.state g.K.Sink c.args.server.now c.step-answer.new.self c.args.sink.now c.tell.new.self c.args.event.now c.step-answer.result _ _
    c.step-answer.ensures.steps c.step-answer.ensures.history c.store.ensures c.session_of.ensures c.tell.result c.tell.ensures.told c.tell.ensures.taken

pub returns-clause-broken : goal.returns-clause-broken
returns-clause-broken g c =
    broken_then g.X.EventHandler.Reads g.S.Map.state g.K.Sink c.args.server.now c.step-answer.new.self c.args.sink.now c.tell.new.self c.args.event.now c.step-answer.result _ _
    c.step-answer.ensures.steps c.step-answer.ensures.history c.store.ensures c.session_of.ensures c.tell.result c.tell.ensures.broken c.tell.ensures.counts
