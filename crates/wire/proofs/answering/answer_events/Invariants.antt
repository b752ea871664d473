use Rattle.std.proofs.Common.{take}
use Rattle.store.specs.Store.{KeepsHistory}
use Rattle.wire.specs.Answers.{AnswersAll}
use Rattle.wire.proofs.answering.answer_events.Given as goal

abbrev pub invariant-loop-index : goal.invariant-loop-index
invariant-loop-index g l =
    let state = g.S.Map.state in
    record {
      history : KeepsHistory (state l.fn.server.store) (state l.server.store);
      answered : AnswersAll g.X.EventHandler.Reads state g.K.Sink l.fn.server (take l.index l.fn.events) l.fn.sink l.server l.sink;
    }
