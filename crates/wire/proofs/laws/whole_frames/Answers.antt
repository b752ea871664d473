use Rattle.wire.proofs.EventFrames.{event_read}
use Rattle.wire.proofs.FramesBack.{only_frames}
use Rattle.wire.proofs.laws.whole_frames.Goals as goal

pub returns-clause-read : goal.returns-clause-read
returns-clause-read c = event_read

pub returns-clause-only : goal.returns-clause-only
returns-clause-only c = only_frames
