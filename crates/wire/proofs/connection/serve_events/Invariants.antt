use Rattle.std.proofs.Common.{◌≤◌, length}
use Rattle.wire.specs.Connection.{input_of, SoFar}
use Rattle.wire.proofs.connection.serve_events.Given as goal

-- each read so far gave bytes, and the answers so far have gone out
abbrev pub invariant-loop : goal.invariant-loop
invariant-loop g l =
    (far : SoFar g.X.EventHandler.Reads g.S.Map.state g.K.Sink l.fn.server (input_of (g.R.Input.remaining l.fn.reader) (g.R.Input.failures l.fn.reader)) l.fn.sink l.frames l.server (input_of (g.R.Input.remaining l.reader) (g.R.Input.failures l.reader)) l.sink)
    × (l.counter ≤ length far.bytes) × (g.K.TakesFrames.finished l.fn.sink → g.K.TakesFrames.finished l.sink)
