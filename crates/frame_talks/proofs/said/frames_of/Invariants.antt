use Rattle.std.proofs.Common.{◌≡◌, ◌++◌, length}
use Rattle.wire.specs.AnswerFrames.{answer_frames}
use Rattle.frame_talks.proofs.said.frames_of.Given as goal

-- what was put and the frames of the rest are the frames of all
abbrev pub invariant-loop-rest : goal.invariant-loop-rest
invariant-loop-rest l = answer_frames l.session l.text ≡ l.frames.items ++ answer_frames l.session l.rest

abbrev pub decreases-loop-rest : goal.decreases-loop-rest
decreases-loop-rest l = length l.rest
