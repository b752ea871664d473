use Rattle.std.proofs.Common.{[]}
use Rattle.wire.proofs.NextFrames.{incomplete_short}
use Rattle.wire.proofs.frames.Frames.new.Goals as goal
use Rattle.std.proofs.Common.{arith}

pub returns-clause-stream : goal.returns-clause-stream
returns-clause-stream c = (incomplete_short [] (omega arith), c.new.ensures.items)
