use Rattle.std.proofs.Common.{take, arith}
use Rattle.wire.specs.declared.connection.End.TheVariants.{Writer}
use Rattle.wire.specs.Connection.{input_of}
use Rattle.wire.proofs.Serving.{none_read, never_begun, open_yet, reader_fails, reads_more, ends_here, no_end, end_is}
use Rattle.wire.proofs.connection.serve_events.Goals as goal

pub returns-then-not-is_ready-clause-served : goal.returns-then-not-is_ready-clause-served
returns-then-not-is_ready-clause-served g c =
    never_begun g.X.EventHandler.Reads g.S.Map.state g.K.Sink c.args.server.now (input_of (g.R.Input.remaining c.args.reader.now) (g.R.Input.failures c.args.reader.now)) c.args.sink.now c.new-frames.result c.new-frames.ensures.stream

pub loop-init : goal.loop-init
loop-init g c =
    (none_read g.X.EventHandler.Reads g.S.Map.state g.K.Sink c.args.server.now (input_of (g.R.Input.remaining c.args.reader.now) (g.R.Input.failures c.args.reader.now)) c.args.sink.now c.new-frames.result c.new-frames.ensures.stream, omega arith, λ out. out)

pub returns-in_default-clause-served : goal.returns-in_default-clause-served
returns-in_default-clause-served g c =
    reader_fails g.X.EventHandler.Reads g.S.Map.state g.K.Sink c.args.server.now (input_of (g.R.Input.remaining c.args.reader.now) (g.R.Input.failures c.args.reader.now)) c.args.sink.now c.loop.frames c.loop.server (input_of (g.R.Input.remaining c.loop.reader) (g.R.Input.failures c.loop.reader)) (input_of (g.R.Input.remaining c.read.new.self) (g.R.Input.failures c.read.new.self)) c.loop.sink
    c.loop.invariant.0 c.in_default.ensures.bytes c.in_default.ensures.counts

pub returns-in-Some-clause-served : goal.returns-in-Some-clause-served
returns-in-Some-clause-served g c =
    let read = c.in-Ok.ensures.bound in
    let room = c.if-count-eq0.array_long in
    let served = c.in-Some.ensures.served (open_yet g.X.EventHandler.Reads g.S.Map.state g.K.Sink c.args.server.now (input_of (g.R.Input.remaining c.args.reader.now) (g.R.Input.failures c.args.reader.now)) c.args.sink.now c.loop.frames c.loop.server (input_of (g.R.Input.remaining c.loop.reader) (g.R.Input.failures c.loop.reader)) c.loop.sink c.loop.invariant.0) in
    ends_here g.X.EventHandler.Reads g.S.Map.state g.K.Sink c.args.server.now (input_of (g.R.Input.remaining c.args.reader.now) (g.R.Input.failures c.args.reader.now)) c.args.sink.now c.in-Some.end c.loop.frames (take c.in-Ok.count c.read.new.buffer)
    c.serve_piece.new.frames c.loop.server c.serve_piece.new.server (input_of (g.R.Input.remaining c.loop.reader) (g.R.Input.failures c.loop.reader)) (input_of (g.R.Input.remaining c.read.new.self) (g.R.Input.failures c.read.new.self)) c.loop.sink
    c.serve_piece.new.sink c.loop.invariant.0 c.in-Ok.ensures.bytes.0 (omega (arith, read.0, read.1, room)) served

pub loop-preserved : goal.loop-preserved
loop-preserved g c =
    let read = c.in-Ok.ensures.bound in
    let served = c.in_default-serve_piece.ensures.served (open_yet g.X.EventHandler.Reads g.S.Map.state g.K.Sink c.args.server.now (input_of (g.R.Input.remaining c.args.reader.now) (g.R.Input.failures c.args.reader.now)) c.args.sink.now c.loop.frames c.loop.server (input_of (g.R.Input.remaining c.loop.reader) (g.R.Input.failures c.loop.reader)) c.loop.sink c.loop.invariant.0) in
    let more = reads_more g.X.EventHandler.Reads g.S.Map.state g.K.Sink c.args.server.now (input_of (g.R.Input.remaining c.args.reader.now) (g.R.Input.failures c.args.reader.now)) c.args.sink.now c.loop.frames (take c.in-Ok.count c.read.new.buffer)
    c.serve_piece.new.frames c.loop.server c.serve_piece.new.server (input_of (g.R.Input.remaining c.loop.reader) (g.R.Input.failures c.loop.reader)) (input_of (g.R.Input.remaining c.read.new.self) (g.R.Input.failures c.read.new.self)) c.loop.sink
    c.serve_piece.new.sink c.loop.counter c.in_default-serve_piece.ensures.history c.loop.invariant.0 c.in-Ok.ensures.bytes.0 c.in-Ok.ensures.counts served c.loop.invariant.1 (omega (arith, read.1)) in
    (more.0, more.1, λ out. c.in_default-serve_piece.ensures.finished (c.loop.invariant.2 out) (no_end Writer))

pub returns-clause-served : goal.returns-clause-served
returns-clause-served g c = (c.loop.frames, c.loop.invariant.0, omega (arith, c.loop.invariant.1))

pub returns-in_default-clause-finished : goal.returns-in_default-clause-finished
returns-in_default-clause-finished g c out other = c.loop.invariant.2 out

pub returns-then-count-eq0-clause-finished : goal.returns-then-count-eq0-clause-finished
returns-then-count-eq0-clause-finished g c out other = c.loop.invariant.2 out

pub returns-in-Some-clause-finished : goal.returns-in-Some-clause-finished
returns-in-Some-clause-finished g c out other = c.in-Some.ensures.finished (c.loop.invariant.2 out) (λ same. other (end_is c.in-Some.end Writer same))

pub returns-clause-finished : goal.returns-clause-finished
returns-clause-finished g c out other = c.loop.invariant.2 out
