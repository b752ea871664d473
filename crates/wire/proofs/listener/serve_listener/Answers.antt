use Rattle.std.proofs.Common.{ℕ, ◌∙◌, ◌+◌, sym, refl, subst, arith}
use Rattle.store.proofs.Reading.{history_joined}
use Rattle.wire.specs.declared.listener.Served.TheVariants.{Done, Stopped, Net}
use Rattle.wire.specs.Counts.{Rose}
use Rattle.wire.specs.Connection.{input_of}
use Rattle.wire.proofs.Answered.{history_kept}
use Rattle.wire.proofs.Connecting.{run_none, connection_run, runs_on, left_on}
use Rattle.wire.proofs.Listening.{none_served, served_more, ends_with}
use Rattle.wire.proofs.listener.serve_listener.Goals as goal

pub returns-then-has_stopped-clause-serves : goal.returns-then-has_stopped-clause-serves
returns-then-has_stopped-clause-serves g c =
    ends_with g.X.EventHandler.Reads g.S.Map.state g.L.Sink.Sink c.args.server.now c.args.server.now c.args.connections 0 (g.L.Listen.listening c.args.listener.now) _ _ Stopped
    (none_served g.X.EventHandler.Reads g.S.Map.state g.L.Sink.Sink c.args.server.now (g.L.Listen.listening c.args.listener.now)) (omega arith, sym c.if-has_stopped.ensures.stopped, refl)

pub returns-then-has_stopped-clause-runs : goal.returns-then-has_stopped-clause-runs
returns-then-has_stopped-clause-runs g c within = run_none g.X.EventHandler.Reads g.S.Map.state c.args.server.now

pub loop-init : goal.loop-init
loop-init g c = record {
  history = history_kept (g.S.Map.state c.args.server.now.store);
  works = sym c.if-has_stopped.ensures.stopped;
  none_failed = refl;
  served = none_served g.X.EventHandler.Reads g.S.Map.state g.L.Sink.Sink c.args.server.now (g.L.Listen.listening c.args.listener.now);
  runs = λ within. run_none g.X.EventHandler.Reads g.S.Map.state c.args.server.now;
  left = λ sound left. left;
}

pub returns-in_default-clause-serves : goal.returns-in_default-clause-serves
returns-in_default-clause-serves g c =
    ends_with g.X.EventHandler.Reads g.S.Map.state g.L.Sink.Sink c.args.server.now c.loop.server c.args.connections c.loop.counter (g.L.Listen.listening c.args.listener.now) (g.L.Listen.listening c.loop.listener)
    (g.L.Listen.listening c.take.new.self) Net c.loop.invariant.served (omega arith, c.loop.invariant.works, c.in_default.ensures.failed)

pub returns-clause-serves : goal.returns-clause-serves
returns-clause-serves g c =
    ends_with g.X.EventHandler.Reads g.S.Map.state g.L.Sink.Sink c.args.server.now c.loop.server c.args.connections c.loop.counter (g.L.Listen.listening c.args.listener.now) _ _ Done c.loop.invariant.served
    (omega arith, c.loop.invariant.works, refl)

pub returns-then-has_stopped-2-clause-serves : goal.returns-then-has_stopped-2-clause-serves
returns-then-has_stopped-2-clause-serves g c =
    let last = c.serve_connection-end.new.server in
    let served = served_more g.X.EventHandler.Reads g.S.Map.state g.L.Sink.Sink c.args.server.now c.loop.server last c.loop.counter (g.L.Listen.listening c.args.listener.now) (g.L.Listen.listening c.loop.listener) (g.L.Listen.listening c.take.new.self)
    (g.L.Listen.listening c.close.new.self) (input_of (g.L.Reader.Input.remaining c.in-Ok.reader) (g.L.Reader.Input.failures c.in-Ok.reader)) c.in-Ok.sink c.serve_connection-end.result _ _ c.loop.invariant.served c.loop.invariant.works
    c.in-Ok.ensures.taken c.serve_connection-end.ensures.served c.serve_connection-end.ensures.history c.serve_connection-end.ensures.left c.close.ensures.closed in
    ends_with g.X.EventHandler.Reads g.S.Map.state g.L.Sink.Sink c.args.server.now last c.args.connections (c.loop.counter + 1) (g.L.Listen.listening c.args.listener.now) _ _ Stopped served
    (omega arith, sym c.if-has_stopped-2.ensures.stopped, refl)

pub returns-then-has_stopped-2-clause-runs : goal.returns-then-has_stopped-2-clause-runs
returns-then-has_stopped-2-clause-runs g c =
    runs_on g.X.EventHandler.Reads g.S.Map.state c.args.server.now c.loop.server c.serve_connection-end.new.server c.loop.invariant.history.sound c.loop.invariant.runs
    (connection_run g.X.EventHandler.Reads g.S.Map.state g.L.Sink.Sink c.loop.server _ _ c.serve_connection-end.result c.serve_connection-end.new.server _ _ c.serve_connection-end.ensures.served)

pub loop-preserved : goal.loop-preserved
loop-preserved g c =
    let last = c.serve_connection-end.new.server in
    record {
      history = history_joined (g.S.Map.state c.args.server.now.store) (g.S.Map.state c.loop.server.store) (g.S.Map.state last.store) c.loop.invariant.history c.serve_connection-end.ensures.history;
      works = sym c.if-has_stopped-2.ensures.stopped;
      none_failed = c.close.ensures.failures ∙ c.in-Ok.ensures.counts ∙ c.loop.invariant.none_failed;
      served = served_more g.X.EventHandler.Reads g.S.Map.state g.L.Sink.Sink c.args.server.now c.loop.server last c.loop.counter (g.L.Listen.listening c.args.listener.now) (g.L.Listen.listening c.loop.listener) (g.L.Listen.listening c.take.new.self)
          (g.L.Listen.listening c.close.new.self) (input_of (g.L.Reader.Input.remaining c.in-Ok.reader) (g.L.Reader.Input.failures c.in-Ok.reader)) c.in-Ok.sink c.serve_connection-end.result _ _ c.loop.invariant.served c.loop.invariant.works
          c.in-Ok.ensures.taken c.serve_connection-end.ensures.served c.serve_connection-end.ensures.history c.serve_connection-end.ensures.left c.close.ensures.closed;
      runs = runs_on g.X.EventHandler.Reads g.S.Map.state c.args.server.now c.loop.server last c.loop.invariant.history.sound c.loop.invariant.runs
          (connection_run g.X.EventHandler.Reads g.S.Map.state g.L.Sink.Sink c.loop.server _ _ c.serve_connection-end.result last _ _ c.serve_connection-end.ensures.served);
      left = left_on g.X.EventHandler.Reads g.S.Map.state c.args.server.now c.loop.server last c.loop.invariant.history.sound c.loop.invariant.works c.loop.invariant.left c.serve_connection-end.ensures.left;
    }

pub returns-in_default-clause-cause : goal.returns-in_default-clause-cause
returns-in_default-clause-cause g c is =
    subst (λ (n : ℕ). Rose n (g.L.Listen.failures c.take.new.self)) c.loop.invariant.none_failed c.in_default.ensures.counts
