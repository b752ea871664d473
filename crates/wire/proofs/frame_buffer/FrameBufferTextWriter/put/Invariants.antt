use Rattle.std.proofs.Common.{◌≡◌, ◌+◌, ◌++◌, ℕ, List, length}
use Rattle.std.specs.Io.KnownBytes.{Appends}
use Rattle.wire.specs.AnswerFrames.{answer_frames}
use Rattle.wire.specs.Sinks.{held_text}
use Rattle.wire.proofs.frame_buffer.FrameBufferTextWriter.put.Given as goal

-- what was sent and what is held are the frames of what was held first and of the piece up to the rest
abbrev pub invariant-loop-self : goal.invariant-loop-self
invariant-loop-self g l = record {
  session : l.self.session ≡ l.fn.self.session;
  sent : (sent : List ℕ) × Appends (g.O.Output.contents l.fn.out) (g.O.Output.contents l.out) sent
      × ((later : List ℕ) → answer_frames l.fn.self.session (held_text l.fn.self.bytes.items l.fn.self.used ++ (l.fn.piece ++ later)) ≡ sent ++ answer_frames l.fn.self.session (held_text l.self.bytes.items l.self.used ++ (l.rest ++ later)));
  counted : g.O.Output.failures l.out ≡ g.O.Output.failures l.fn.out;
}

abbrev pub decreases-loop-self : goal.decreases-loop-self
decreases-loop-self g l = length l.rest + l.self.used
