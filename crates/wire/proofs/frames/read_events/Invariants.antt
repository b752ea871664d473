use Rattle.std.proofs.Common.{◌≤◌, ◌-◌, length, drop}
use Rattle.wire.proofs.Streams.{Behind}
use Rattle.wire.proofs.frames.read_events.Given as goal

abbrev pub invariant-loop-events : goal.invariant-loop-events
invariant-loop-events l = record {
  inside : l.end ≤ length l.bytes;
  read : Behind l.bytes l.events.items (drop l.end l.bytes);
}

abbrev pub decreases-loop-events : goal.decreases-loop-events
decreases-loop-events l = length l.bytes - l.end
