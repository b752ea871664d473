use Rattle.std.proofs.Common.{sym, arith}
use Rattle.store.proofs.Reading.{history_joined}
use Rattle.wire.proofs.Running.{history_kept}
use Rattle.wire.proofs.Closings.{closes_none, closes_more, closes_all, none_left, limit_reached, stopped_closes}
use Rattle.wire.proofs.script_run.close_sessions.Goals as goal

pub loop-init : goal.loop-init
loop-init g c = record {
  history = history_kept (g.S.Map.state c.args.server.now.store);
  closed = closes_none g.X.EventHandler.Reads g.S.Map.state c.args.server.now;
}

pub loop-preserved : goal.loop-preserved
loop-preserved g c = record {
  history = history_joined (g.S.Map.state c.args.server.now.store) (g.S.Map.state c.loop.server.store) (g.S.Map.state c.close_session.new.server.store) c.loop.invariant.history c.close_session.ensures.history;
  closed = closes_more g.X.EventHandler.Reads g.S.Map.state c.args.server.now c.loop.server c.close_session.new.server c.loop.counter c.in-Some.session c.close_session.ensures.steps.0
      (sym c.if-has_stopped.ensures.stopped) c.loop.invariant.history.sound c.loop.invariant.closed c.in-Some.ensures c.close_session.ensures.steps.1;
}

pub returns-then-has_stopped-clause-closes : goal.returns-then-has_stopped-clause-closes
returns-then-has_stopped-clause-closes g c within = stopped_closes g.X.EventHandler.Reads g.S.Map.state c.args.server.now (sym c.if-has_stopped.ensures.stopped)

pub returns-in_default-clause-closes : goal.returns-in_default-clause-closes
returns-in_default-clause-closes g c within =
    closes_all g.X.EventHandler.Reads g.S.Map.state c.args.server.now c.loop.server c.loop.counter (sym c.if-has_stopped.ensures.stopped) within c.loop.invariant.closed
    (none_left g.X.EventHandler.Reads g.S.Map.state c.args.server.now c.loop.server c.loop.counter within c.in_default.ensures)

pub returns-clause-closes : goal.returns-clause-closes
returns-clause-closes g c within =
    closes_all g.X.EventHandler.Reads g.S.Map.state c.args.server.now c.loop.server c.loop.counter (sym c.if-has_stopped.ensures.stopped) within c.loop.invariant.closed
    (limit_reached g.X.EventHandler.Reads g.S.Map.state c.args.server.now c.loop.server c.loop.counter (omega arith) within)
