use Rattle.store.specs.Store.{KeepsHistory}
use Rattle.wire.proofs.Closings.{ClosesSoFar}
use Rattle.wire.proofs.script_run.close_sessions.Given as goal

abbrev pub invariant-loop : goal.invariant-loop
invariant-loop g l =
    let state = g.S.Map.state in
    record {
      history : KeepsHistory (state l.fn.server.store) (state l.server.store);
      closed : ClosesSoFar g.X.EventHandler.Reads state l.fn.server l.counter l.server;
    }
