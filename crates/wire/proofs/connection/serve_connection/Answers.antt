use Rattle.wire.proofs.Closings.{within_then, leaves_none}
use Rattle.wire.specs.Connection.{input_of}
use Rattle.wire.proofs.Serving.{ran_to}
use Rattle.wire.proofs.connection.serve_connection.Goals as goal

pub returns-clause-served : goal.returns-clause-served
returns-clause-served g c = record {
  server = c.serve_events-end.new.server;
  history = c.serve_events-end.ensures.history;
  served = c.serve_events-end.ensures.served;
  closed = λ within.
      let ran = ran_to g.X.EventHandler.Reads g.S.Map.state g.K.Sink c.args.server.now (input_of (g.R.Input.remaining c.args.reader.now) (g.R.Input.failures c.args.reader.now)) c.args.sink.now c.serve_events-end.result c.serve_events-end.new.server
      (input_of (g.R.Input.remaining c.serve_events-end.new.reader) (g.R.Input.failures c.serve_events-end.new.reader)) c.serve_events-end.new.sink c.serve_events-end.ensures.served in
      c.close_sessions.ensures.closes
      (within_then g.X.EventHandler.Reads g.S.Map.state c.args.server.now c.serve_events-end.new.server ran.0 ran.1 c.serve_events-end.ensures.history.sound ran.2 within);
}

pub returns-clause-left : goal.returns-clause-left
returns-clause-left g c within =
    let ran = ran_to g.X.EventHandler.Reads g.S.Map.state g.K.Sink c.args.server.now (input_of (g.R.Input.remaining c.args.reader.now) (g.R.Input.failures c.args.reader.now)) c.args.sink.now c.serve_events-end.result c.serve_events-end.new.server
    (input_of (g.R.Input.remaining c.serve_events-end.new.reader) (g.R.Input.failures c.serve_events-end.new.reader)) c.serve_events-end.new.sink c.serve_events-end.ensures.served in
    let then = within_then g.X.EventHandler.Reads g.S.Map.state c.args.server.now c.serve_events-end.new.server ran.0 ran.1 c.serve_events-end.ensures.history.sound ran.2 within in
    leaves_none g.X.EventHandler.Reads g.S.Map.state c.serve_events-end.new.server c.close_sessions.new.server then (c.close_sessions.ensures.closes then)
