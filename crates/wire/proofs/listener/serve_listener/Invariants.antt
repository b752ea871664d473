use Rattle.std.proofs.Common.{◌≡◌, false}
use Rattle.store.specs.Store.{KeepsHistory}
use Rattle.wire.specs.Closing.{StandsWithinLimit, LeavesNoSession}
use Rattle.wire.specs.Connection.{HasRun}
use Rattle.wire.proofs.Listening.{ServedSoFar}
use Rattle.wire.proofs.listener.serve_listener.Given as goal

abbrev pub invariant-loop : goal.invariant-loop
invariant-loop g l =
    let state = g.S.Map.state in
    record {
      history : KeepsHistory (state l.fn.server.store) (state l.server.store);
      works : l.server.stopped ≡ false;
      none_failed : g.L.Listen.failures l.listener ≡ g.L.Listen.failures l.fn.listener;
      served : ServedSoFar g.X.EventHandler.Reads state g.L.Sink.Sink l.counter l.fn.server (g.L.Listen.listening l.fn.listener) l.server (g.L.Listen.listening l.listener);
      runs : StandsWithinLimit state l.fn.server → HasRun g.X.EventHandler.Reads state l.fn.server l.server;
      left : (state l.fn.server.store).sound → LeavesNoSession state l.fn.server → LeavesNoSession state l.server;
    }
